-- What closes a frame: the end of the run, a head that is refused, a frame that stands by itself.
use Rattle.std.specs.Prelude.{Ok, Err}
use Prim.Native.Nat.{ℕ, ◌+◌, ◌-◌, ◌≤◌, ◌<◌}
use native.Mathlib.Omega.{arith}
use native.Mathlib.Decide.{dec_le}
use mathlib.Core.Path.{◌≡◌, refl, ap, ◌∙◌}
use mathlib.Core.Logic.{inl, inr}
use mathlib.Core.Bool.{Bool, true}
use mathlib.Core.List.{List, ◌++◌}
use lib.Dec.{ltb, leb, eqb}
use lib.ListN.{length, drop, length-append}
use borrow.Author.Tests.{lt-ltb, le-leb, eqb-false, ltb-true}
use Rattle.wire.specs.Bytes.{be16, two}
use Rattle.answer.specs.declared.Refused.{Refused}
use Rattle.dss_head.specs.Heads.{head_at, head_bytes, length_of}
use Rattle.dss_head.specs.declared.DssType.{DssType}
use Rattle.dss_head.specs.declared.DssHeader.{DssHeader}
use Rattle.dss_frame.specs.declared.Rules.{Rules}
use Rattle.dss_frame.specs.declared.Rules.TheVariants.{Salvage}
use Rattle.dss_frame.specs.Reading.{finished, look, look_at, follows, own_object}
use Rattle.dss_frame.specs.Written.{Sent, head_of, written}
use Rattle.ddm_builder.proofs.BuiltForms.{built_inline}
use Rattle.demands.specs.Demands.{Sendable, StartsObject, Stands}
use Rattle.wire.proofs.WireLaws.{pick_by, and_both, true_false}
use Rattle.wire.proofs.Places.{here_two, here_first}
use Rattle.dss_laws.proofs.Framed.{Framed, single, several}
use Rattle.dss_laws.proofs.WritingLaws.{framed_written, written_single}
use Rattle.dss_head.proofs.HeadLaws.{moved_to}
use Rattle.dss_laws.proofs.HeadFields.{head_moved, head_written}
use Rattle.demands.proofs.WrittenFrames.{Closed, framed_six}

-- a head that is refused, under salvage's rules
pub closed_refused : (s : List ℕ) (q : ℕ) (r : Refused) → head_at s q ≡ Err r → Closed Salvage s q
unfolding look
closed_refused s q r e t extended = pick_by (λ l. l ≡ finished) (ltb (length s - q) 6) _ _ (λ k. refl) (λ k. ap (look_at Salvage s t extended q) e)

-- what a head must be to close: several segments, or another correlation, or an object of its own
abbrev pub Own : List ℕ → ℕ → DssHeader → Type 0
Own s q h = (be16 s q ≡ 65535 → ⊥) → h.flags.same_correlation ≡ true → (6 ≤ be16 s q) × (own_object s q ≡ true)

closed_at : (rules : Rules) (s : List ℕ) (q : ℕ) (h : DssHeader) → Own s q h → (t : DssType) (extended : Bool) → look_at rules s t extended q (Ok h) ≡ finished
closed_at rules s q h own t extended =
    pick_by (λ l. l ≡ finished) (eqb (be16 s q) 65535) _ _ (λ e. refl)
    (λ e. pick_by (λ l. l ≡ finished) h.flags.same_correlation _ _
    (λ e₁. pick_by (λ l. l ≡ finished) (follows t h.dss_type) _ _
    (λ e₂. pick_by (λ l. l ≡ finished) (leb (be16 s q) (length s - q)) _ _
    (λ e₃. pick_by (λ l. l ≡ finished) (ltb (be16 s q) 6) _ _
    (λ e₄. absurd (omega (arith, ltb-true (be16 s q) 6 e₄, (own (eqb-false (be16 s q) 65535 e) e₁).0)))
    (λ e₄. pick_by (λ l. l ≡ finished) (own_object s q) _ _ (λ e₅. refl) (λ e₅. absurd (true_false (own_object s q) (own (eqb-false (be16 s q) 65535 e) e₁).1 e₅))))
    (λ e₃. refl))
    (λ e₂. refl))
    (λ e₁. refl))

pub closed_head : (rules : Rules) (s : List ℕ) (q : ℕ) (h : DssHeader) → head_at s q ≡ Ok h → Own s q h → Closed rules s q
unfolding look
closed_head rules s q h e own t extended =
    pick_by (λ l. l ≡ finished) (ltb (length s - q) 6) _ _ (λ k. refl) (λ k. ap (look_at rules s t extended q) e ∙ closed_at rules s q h own t extended)

-- ---- a frame that stands by itself

-- the payload of a frame that starts with an object
object_payload : (f : Sent) (o : StartsObject f) → f.payload ≡ two (length o.content + 4) ++ (two o.code_point ++ (o.content ++ o.more))
object_payload f o = o.starts ∙ ap (λ (l : List ℕ). l ++ o.more) (built_inline o.code_point o.content o.inline)

object_written : (f : Sent) (o : StartsObject f) → length f.payload ≤ 32761
    → written f ≡ head_bytes (head_of f (length f.payload + 6)) ++ (two (length o.content + 4) ++ (two o.code_point ++ (o.content ++ o.more)))
object_written f o h = written_single f h ∙ ap (λ (l : List ℕ). head_bytes (head_of f (length f.payload + 6)) ++ l) (object_payload f o)

object_length : (f : Sent) (o : StartsObject f) → length o.content + 4 ≤ length f.payload
object_length f o = omega (arith, ap length (object_payload f o), length-append o.content o.more)

own_object_is : (f : Sent) (o : StartsObject f) (s rest : List ℕ) (q : ℕ) → length f.payload ≤ 32761 → drop q s ≡ written f ++ rest → (6 ≤ be16 s q) × (own_object s q ≡ true)
own_object_is f o s rest q h d =
    let n : ℕ = length f.payload in
    let m : ℕ = length o.content + 4 in
    let five : 5 ≤ n = o.five in
    let inside : m ≤ n = object_length f o in
    let above : 256 < o.code_point = o.above in
    let fits : o.code_point < 65536 = o.fits in
    let e : written f ≡ head_bytes (head_of f (n + 6)) ++ (two m ++ (two o.code_point ++ (o.content ++ o.more))) = object_written f o h in
    let l : length (written f) ≡ n + 6 = ap length (written_single f h) ∙ omega arith in
    let raw : be16 s q ≡ n + 6 = here_first s (written f) rest q d (omega arith) ∙ ap (λ (b : List ℕ). be16 b 0) e ∙ omega arith in
    let size : be16 s (q + 6) ≡ m = here_two s (written f) rest q 6 d (omega arith) ∙ ap (λ (b : List ℕ). be16 b 6) e ∙ omega arith in
    let code : be16 s (q + 8) ≡ o.code_point = here_two s (written f) rest q 8 d (omega arith) ∙ ap (λ (b : List ℕ). be16 b 8) e ∙ omega arith in (
      omega arith,
      and_both (ltb 10 (be16 s q)) _ (lt-ltb 10 (be16 s q) (omega arith))
          (and_both (ltb 256 (be16 s (q + 8))) _ (lt-ltb 256 (be16 s (q + 8)) (omega arith)) (le-leb (be16 s (q + 6)) (be16 s q - 2) (omega arith))),
    )

-- a frame in several segments says so
several_raw : {n : ℕ} {b : List ℕ} → Framed n b → 32761 < n → be16 b 0 ≡ 65535
several_raw (single k _ _) h = absurd (omega arith)
several_raw (several k r _ _ _ w) h = w.starts

stands_own : (f : Sent) → Stands f → (n : ℕ) (s rest : List ℕ) (q : ℕ) → drop q s ≡ written f ++ rest → Own s q (head_of f n)
stands_own f st n s rest q d ne same =
    elim (dec_le (length f.payload) 32761) [
      | yes h ↦ short h st
      | no h ↦ absurd (ne (here_first s (written f) rest q d (omega (arith, framed_six (framed_written f))) ∙ several_raw (framed_written f) (omega arith)))
    ]
  where
    short : length f.payload ≤ 32761 → Stands f → (6 ≤ be16 s q) × (own_object s q ≡ true)
    short h (inl e) = absurd (true_false f.same same e)
    short h (inr (inl l)) = absurd (omega arith)
    short h (inr (inr o)) = own_object_is f o s rest q h d

pub closed_stands : (f : Sent) → Sendable f → Stands f → (rules : Rules) (s rest : List ℕ) (q : ℕ) → drop q s ≡ written f ++ rest → Closed rules s q
closed_stands f v st rules s rest q d =
    let n : ℕ = length_of (be16 (written f) 0) in
    closed_head rules s q (head_of f n)
    (head_moved s (written f) rest q d (framed_six (framed_written f)) ∙ ap (moved_to q) (head_written f v.correlation))
    (stands_own f st n s rest q d)
