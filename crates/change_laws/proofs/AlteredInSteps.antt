-- The whole way of "We build a request once a site and alter one value for each extension block". The request is an
-- object in a frame, so its data are changed, built and written: three calls, by the contracts that they have.
use Rattle.std.specs.Prelude.{Ok}
use Prim.Native.Nat.{ℕ, ◌^◌, ◌<◌}
use mathlib.Core.Path.{◌≡◌, sym, ◌∙◌, ap}
use mathlib.Core.Bool.{Bool}
use mathlib.Core.List.{List, ◌∷◌, ◌++◌}
use lib.ListN.{length, take, drop}
use lib.Seq.{take_at}
use Rattle.answer.specs.Rooms.{Lays}
use Rattle.dss_head.specs.declared.DssType.{DssType}
use Rattle.dss_frame.specs.Written.{Sent, written}
use Rattle.ddm_builder.specs.Built.{built, built_all, Fit}
use Rattle.ddm_change.specs.Change.{Changes}
use Rattle.change_laws.proofs.ChangeLays.{lays_done}
use Rattle.change_laws.proofs.ChangeCall.{Lay, done_laid}
use Rattle.change_laws.proofs.Altered.{WithoutParam, alters}

-- what was laid down are the room's first bytes
laid_first : (bytes room : List ℕ) (n : ℕ) (after : List ℕ) → Lays bytes room (Ok n) after → take n after ≡ bytes
laid_first bytes room n after p =
    let l = lays_done bytes room after n p in
    ap (take n) l.room_is ∙ take_at bytes (drop n room) n (sym l.many)

abbrev pub frame : DssType → Bool → Bool → ℕ → List ℕ → Sent
frame t chained same correlation payload = record { type = t; chained = chained; same = same; correlation = correlation; payload = payload }

-- The data of a request that was built, with one value altered; the object built of them; the frame written of that: the frame that is
-- written when the request is built with that value at once.
module _ (before after : List (ℕ × List ℕ)) (cp : ℕ) (old new : List ℕ) (fit : Fit before) (fit' : Fit after) (small : cp < 65536) (few : length old < 2 ^ 63) (first : WithoutParam cp before)
    (code : ℕ) (t : DssType) (chained same : Bool) (correlation : ℕ) where
  pub request_altered : (room₁ room₂ room₃ after₁ after₂ after₃ : List ℕ) (n₁ n₂ n₃ : ℕ)
      → Changes (built_all (before ++ ((cp, old) ∷ after))) cp new room₁ (Ok n₁) after₁
      → Lays (built code (take n₁ after₁)) room₂ (Ok n₂) after₂
      → Lays (written (frame t chained same correlation (take n₂ after₂))) room₃ (Ok n₃) after₃
      → take n₃ after₃ ≡ written (frame t chained same correlation (built code (built_all (before ++ ((cp, new) ∷ after)))))
  request_altered room₁ room₂ room₃ after₁ after₂ after₃ n₁ n₂ n₃ a b c =
      let l : Lay (built_all (before ++ ((cp, old) ∷ after))) cp new room₁ n₁ after₁ = done_laid (built_all (before ++ ((cp, old) ∷ after))) cp new room₁ after₁ n₁ a in
      let e : l.bytes ≡ built_all (before ++ ((cp, new) ∷ after)) = cc (l.is, alters before after cp old new fit fit' small few first) in
      let x : take n₁ after₁ ≡ built_all (before ++ ((cp, new) ∷ after)) = ap (take n₁) l.room_is ∙ take_at l.bytes (drop n₁ room₁) n₁ (sym l.many) ∙ e in
      laid_first (written (frame t chained same correlation (take n₂ after₂))) room₃ n₃ after₃ c
      ∙ ap (λ (p : List ℕ). written (frame t chained same correlation p)) (laid_first (built code (take n₁ after₁)) room₂ n₂ after₂ b ∙ ap (built code) x)
