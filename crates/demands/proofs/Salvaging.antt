-- Demand 3: salvage hands out every frame that isn't spoilt, and one refusal for each that is.
use Prim.Native.Nat.{ℕ, ◌+◌}
use native.Mathlib.Omega.{arith}
use mathlib.Core.Path.{◌≡◌, refl, sym, ap, subst, ◌∙◌}
use mathlib.Core.List.{List, [], ◌∷◌, ◌++◌}
use lib.ListN.{length, drop, length-append}
use Rattle.answer.specs.declared.Refused.{Refused}
use Rattle.dss_frame.specs.declared.Rules.TheVariants.{Salvage}
use Rattle.dss_frame.specs.Reading.{frame, refused}
use Rattle.dss_frame.specs.Salvage.{Salvaged, entry, salvaged}
use Rattle.dss_frame.specs.Written.{Sent, written}
use Rattle.demands.specs.Demands.{Sendable, Spoilt, Item, good, spoilt, run, AllDue, Salvages}
use Rattle.wire.proofs.Places.{here_first, here_next}
use Rattle.dss_laws.proofs.Framed.{Framed, segments_of, segments_end, framed_walk}
use Rattle.dss_laws.proofs.WritingLaws.{framed_written}
use Rattle.demands.proofs.WrittenFrames.{Closed, sent_at, read_written, read_refused, gives_written, framed_six, framed_raw}
use Rattle.dss_laws.proofs.Looking.{look_nothing}
use Rattle.demands.proofs.Standing.{closed_refused, closed_stands}
use Rattle.demands.proofs.SpoiltFrames.{framed_spoilt, head_spoilt}
use Rattle.dss_laws.proofs.SalvageLaws.{salvaged_from, salvaged_from_lem, salvaged_end, salvaged_frame, salvaged_refused}

-- what follows an item closes it: the next one, or the end
closed_next : (is : List (Item written)) (s : List ℕ) (q : ℕ) → drop q s ≡ run is → q + length (run is) ≡ length s → Closed Salvage s q
unfolding run
closed_next [] s q d l = look_nothing Salvage s q (omega arith)
closed_next (good f v st ∷ is) s q d l = closed_stands f v st Salvage s (run is) q d
closed_next (spoilt f v st b x ∷ is) s q d l = closed_refused s q _ (head_spoilt f b x s (run is) q d)

-- where a good frame stands, its entry, and on behind it
step_good : (f : Sent) → Sendable f → (s rest : List ℕ) (p : ℕ) → drop p s ≡ written f ++ rest → Closed Salvage s (p + length (written f))
    → salvaged_from s p ≡ entry p (p + length (written f)) (frame (sent_at f p)) (salvaged_from s (p + length (written f)))
step_good f v s rest p d c =
    salvaged_frame s p (segments_of (framed_written f) p) (sent_at f p) (framed_walk (framed_written f) Salvage tt s rest p d) (read_written f v Salvage tt s rest p d (λ h. c))
    ∙ ap (λ (q : ℕ). entry p q (frame (sent_at f p)) (salvaged_from s q)) (segments_end (framed_written f) p)

-- where a spoilt one stands, its refusal, and on behind it
step_spoilt : (f : Sent) (b : List ℕ) (x : Spoilt written f b) (s rest : List ℕ) (p : ℕ) → drop p s ≡ b ++ rest
    → salvaged_from s p ≡ entry p (p + length b) (refused (record { why = x.reason.why; place = p })) (salvaged_from s (p + length b))
step_spoilt f b x s rest p d =
    let w : Framed (length f.payload) b = framed_spoilt f b x in
    let r : Refused = record { why = x.reason.why; place = p } in
    salvaged_refused s p (segments_of w p) r (framed_walk w Salvage tt s rest p d)
    (read_refused w Salvage tt s rest p r d (head_spoilt f b x s rest p d))
    (omega (arith, framed_raw w, here_first s b rest p d (omega (arith, framed_six w))))
    ∙ ap (λ (q : ℕ). entry p q (refused r) (salvaged_from s q)) (segments_end w p)

-- what is owed from a place on
abbrev Owed : List ℕ → ℕ → List (Item written) → Salvaged → Type 0
Owed s p items x = AllDue s p items x.entries × (x.tail ≡ length s)

recovers : (items : List (Item written)) (s : List ℕ) (p : ℕ) → drop p s ≡ run items → p + length (run items) ≡ length s → Owed s p items (salvaged_from s p)
unfolding run AllDue
recovers [] s p d l = subst (Owed s p []) (sym (salvaged_end s p (omega arith))) (tt, omega arith)
recovers (good f v st ∷ is) s p d l =
    let q : ℕ = p + length (written f) in
    let d₁ : drop q s ≡ run is = here_next s (written f) (run is) p q d refl in
    let l₁ : q + length (run is) ≡ length s = omega (arith, length-append (written f) (run is)) in
    let ih : Owed s q is (salvaged_from s q) = recovers is s q d₁ l₁ in
    subst (Owed s p (good f v st ∷ is)) (sym (step_good f v s (run is) p d (closed_next is s q d₁ l₁)))
    ((record { at = refl; end = refl; read = gives_written f s (run is) p d }, ih.0), ih.1)
recovers (spoilt f v st b x ∷ is) s p d l =
    let q : ℕ = p + length b in
    let d₁ : drop q s ≡ run is = here_next s b (run is) p q d refl in
    let l₁ : q + length (run is) ≡ length s = omega (arith, length-append b (run is)) in
    let ih : Owed s q is (salvaged_from s q) = recovers is s q d₁ l₁ in
    subst (Owed s p (spoilt f v st b x ∷ is)) (sym (step_spoilt f b x s (run is) p d))
    ((record { at = refl; end = refl; read = (refl, refl) }, ih.0), ih.1)

pub salvages : Salvages written salvaged
salvages items = subst (Owed (run items) 0 items) (sym (salvaged_from_lem (run items))) (recovers items (run items) 0 refl (omega arith))
