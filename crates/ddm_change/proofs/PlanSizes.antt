-- What is known of a request before it is laid down: how long it is with the parameter rewritten.
use Prim.Native.Nat.{ℕ, ◌+◌, ◌-◌, ◌%◌, ◌^◌, ◌≤◌, ◌<◌}
use native.Mathlib.Omega.{arith}
use mathlib.Core.Path.{◌≡◌, sym, ap, ◌∙◌}
use mathlib.Core.Bool.{Bool, true, false}
use mathlib.Core.List.{List, ◌++◌}
use borrow.Author.Tests.{ltb-true, ltb-false, ne_eqb}
use lib.Dec.{ltb}
use lib.ListN.{length, drop}
use Rattle.wire.specs.Bytes.{and, be16, part}
use Rattle.wire.proofs.WireLaws.{by, pick_yes, pick_no, and_no}
use Rattle.answer.specs.Rooms.{capped}
use Rattle.answer.specs.declared.Refusal.TheVariants.{UnreadableSize}
use Rattle.dss_writer.proofs.LayingLaws.{capped_same}
use Rattle.ddm_builder.specs.Built.{built, built_size}
use Rattle.ddm_builder.proofs.BuiltForms.{few_bytes}
use Rattle.ddm_change.specs.Request.{lays_frame, refuses_it, reframed, unreadable, framed_of, request_of}
use Rattle.ddm_change.specs.inner.Carried.{SoundCarriage, carried}
use Rattle.ddm_change.proofs.ChangeLaws.{capped_beyond, built_size_lem, built_length, parts_length}
use Rattle.ddm_change.proofs.CarriedLaws.{carried_length}
use Rattle.ddm_change.specs.inner.Planning.{outcome, FoundParam}
use Rattle.ddm_change.specs.declared.Carriage.{Carriage}

-- ---- the lengths after

-- an object of data that can't be counted can't be counted
pub capped_built : (n : ℕ) → capped (built_size (capped n)) ≡ capped (built_size n)
capped_built n =
    by (ltb n (2 ^ 64))
    (λ t. ap (λ (k : ℕ). capped (built_size k)) (capped_same n (ltb-true n (2 ^ 64) t)))
    (λ t. let h : 2 ^ 64 ≤ n = ltb-false n (2 ^ 64) t in
    ap (λ (k : ℕ). capped (built_size k)) (capped_beyond n h)
    ∙ capped_beyond (built_size (2 ^ 64 - 1)) (omega (arith, built_size_lem (2 ^ 64 - 1)))
    ∙ sym (capped_beyond (built_size n) (omega (arith, built_size_lem n))))

-- no payload from 2^64 - 1 up to a little more is unreadable: the test may be made of 2^64 - 1 in its place
readable_high : (n : ℕ) → 2 ^ 64 - 1 ≤ n → n ≤ 2 ^ 64 + 20 → unreadable n ≡ false
readable_high n l h =
    ap (and (ltb 32761 n)) (ne_eqb ((n - 32761) % 32765) 0 (omega arith)) ∙ and_no (ltb 32761 n)

pub unreadable_capped : (n : ℕ) → n ≤ 2 ^ 64 + 20 → unreadable (capped n) ≡ unreadable n
unreadable_capped n l =
    by (ltb n (2 ^ 64)) (λ t. ap unreadable (capped_same n (ltb-true n (2 ^ 64) t)))
    (λ t. let h : 2 ^ 64 ≤ n = ltb-false n (2 ^ 64) t in
    ap unreadable (capped_beyond n h) ∙ readable_high (2 ^ 64 - 1) (omega arith) (omega arith) ∙ sym (readable_high n (omega arith) l))

-- ---- a parameter that is found

module _ (s : List ℕ) (c : Carriage) (sound : SoundCarriage c s) (first from to cp : ℕ) (f : FoundParam s c first from to cp) where
  -- the data after
  abbrev after : List ℕ → List ℕ
  after new = part (carried c s) first from ++ (built cp new ++ drop to (carried c s))

  -- how many bytes they are, of n new ones
  abbrev after_size : ℕ → ℕ
  after_size n = from - first + (length (carried c s) - to) + built_size n

  comes_framed : (new : List ℕ) → request_of s cp new ≡ framed_of s (built (be16 (carried c s) 2) (after new))
  comes_framed new = f.one.comes cp new ∙ ap (outcome s c first) (f.there new)

  module _ (n : ℕ) (small : n < 2 ^ 63) (room : length s < 2 ^ 63) where
    payload_length : (new : List ℕ) → length new ≡ n → length (built (be16 (carried c s) 2) (after new)) ≡ built_size (after_size n)
    payload_length new e =
        built_length (be16 (carried c s) 2) (after new)
        ∙ ap built_size (parts_length (carried c s) first from to cp new (omega (arith, f.ordered, f.inside)) ∙ ap after_size e)

    -- the test is made of the length that can be counted
    tested : (t : Bool) → unreadable (capped (built_size (after_size n))) ≡ t → (new : List ℕ) → length new ≡ n
        → unreadable (length (built (be16 (carried c s) 2) (after new))) ≡ t
    tested t u new e =
        let x : ℕ = after_size n in
        ap unreadable (payload_length new e)
        ∙ sym (unreadable_capped (built_size x)
        (omega (arith, built_size_lem x, built_size_lem n, few_bytes x, few_bytes n, f.behind, f.ordered, f.inside, carried_length c s sound)))
        ∙ u

    module _
        (size payload : ℕ)
        (j : size ≡ capped (after_size n))
        (k : payload ≡ capped (built_size size))
      where
        payload_is : payload ≡ capped (built_size (after_size n))
        payload_is = k ∙ ap (λ (x : ℕ). capped (built_size x)) j ∙ capped_built (after_size n)

        -- 18
        pub found_unreadable : unreadable payload ≡ true → (new : List ℕ) → length new ≡ n
            → request_of s cp new ≡ refuses_it (record { why = UnreadableSize; place = 0 })
        found_unreadable u new e = comes_framed new ∙ pick_yes _ _ (tested true (ap unreadable (sym payload_is) ∙ u) new e)

        pub found_laying : (code : ℕ) → code ≡ be16 (carried c s) 2 → unreadable payload ≡ false → (new : List ℕ) → length new ≡ n
            → request_of s cp new ≡ lays_frame (reframed s (built code (after new)))
        found_laying code l u new e =
            comes_framed new
            ∙ pick_no _ _ (tested false (ap unreadable (sym payload_is) ∙ u) new e)
            ∙ ap (λ (x : ℕ). lays_frame (reframed s (built x (after new)))) (sym l)
