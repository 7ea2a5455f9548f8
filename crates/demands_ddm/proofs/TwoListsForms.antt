-- W-213, "Data long enough for each extended form is covered, where the room exists": one parameter with any data is added to any room that
-- is long enough, in the form that its length has, and no other list leaves these bytes. With data of 2^31 bytes and of 2^48 as examples.
use Prim.Native.Nat.{ℕ, ◌+◌, ◌^◌, ◌≤◌, ◌<◌}
use native.Mathlib.Omega.{arith}
use mathlib.Core.Path.{◌≡◌, refl, ap, subst, ◌∙◌}
use mathlib.Core.List.{List, [], ◌∷◌, ◌++◌, append-nil}
use lib.ListN.{length, take, drop}
use contract.Lifetimes.{Lfts}
use Rattle.wire.specs.Bytes.{be16, two, last, splice}
use Rattle.wire.proofs.WireLaws.{two_back, be16_front}
use Rattle.ddm_builder.specs.Built.{length_bytes, built, built_all, Fit}
use Rattle.ddm_builder.specs.inner.FormsLaid.{raw_length}
use Rattle.ddm_builder.proofs.BuiltForms.{inline_bytes, four_bytes, six_bytes, eight_bytes, length_built, built_is, raw_small}
use Rattle.ddm_builder.specs.declared.DdmBuilder.{DdmBuilder}
use Rattle.gateway_builder.specs.BuilderWords.{builder_of}
use Rattle.demands_ddm.specs.Adding.{ByCalls}
use Rattle.demands_ddm.proofs.ListsAdded.{lent}
use Rattle.demands_ddm.proofs.KeptDdmRequests.{list_is_added, equal_data}
use Rattle.demands_ddm.proofs.Examples.{filled, filled_length}

-- ---- "Data long enough for each extended form is covered, where the room exists": any data, and any room that is long enough

-- what its first two bytes say, in all forms
raw_is : (c : ℕ) (d : List ℕ) → be16 (built c d) 0 ≡ raw_length (length_bytes (length d)) (length d)
raw_is c d =
    let n : ℕ = length d in
    ap (λ (b : List ℕ). be16 b 0) (built_is c d) ∙ two_back (raw_length (length_bytes n) n) (two c ++ (last (length_bytes n) n ++ d)) (raw_small n)

-- one parameter is added at the start of the room, and no other list leaves these bytes
pub record OnlyOne (cp c : ℕ) (d start : List ℕ) (raw : ℕ) : Type 0 where
  pub room_after : List ℕ
  pub added : ByCalls cp start ((c, d) ∷ []) (builder_of cp (length (built c d))) room_after
  pub first_two : be16 room_after 0 ≡ raw
  pub no_other : (m : List (ℕ × List ℕ)) → Fit m → (cp' : ℕ) (start' content' : List ℕ) (b' : DdmBuilder) → ByCalls cp' start' m b' content'
      → take b'.fill content' ≡ take (length (built c d)) room_after → m ≡ (c, d) ∷ []

module _ (κ₂ : Lfts 2) (cp c : ℕ) (d start : List ℕ) (small : c < 65536) (few : length d < 2 ^ 63) (enough : length (built c d) ≤ length start) where
  abbrev p : List ℕ
  p = built c d

  abbrev there : List ℕ
  there = p ++ drop (length p) start

  added_there : ByCalls cp start ((c, d) ∷ []) (builder_of cp (length p)) there
  unfolding splice
  added_there =
      let whole : built_all ((c, d) ∷ []) ≡ p = append-nil p in
      let n : 0 + length p ≡ length p = omega arith in
      subst (λ (k : ℕ). ByCalls cp start ((c, d) ∷ []) (builder_of cp (length p)) (p ++ drop k start)) n
      (subst (λ (x : List ℕ). ByCalls cp start ((c, d) ∷ []) (builder_of cp (length x)) (splice start 0 x)) whole (list_is_added start ((c, d) ∷ []) (omega (arith, ap length whole)) κ₂ cp))

  only_one : (k raw : ℕ) → length_bytes (length d) ≡ k → raw_length k (length d) ≡ raw → OnlyOne cp c d start raw
  unfolding lent
  only_one k raw e f =
      record {
        room_after = there;
        added = added_there;
        first_two = be16_front p (drop (length p) start) 0 (omega (arith, length_built c d)) ∙ raw_is c d ∙ ap (λ (j : ℕ). raw_length j (length d)) e ∙ f;
        no_other = λ m fit cp' start' content' b' a q.
            (equal_data m ((c, d) ∷ []) fit (small, few, tt) cp' cp start' start (lent content') (lent there) b' (builder_of cp (length p)) a added_there).0 q;
      }

  pub inline_only : length d ≤ 32763 → OnlyOne cp c d start (length d + 4)
  inline_only h = only_one 0 (length d + 4) (inline_bytes (length d) h) refl

  pub four_only : 32763 < length d → length d ≤ 2147483643 → OnlyOne cp c d start 0x8008
  four_only l h = only_one 4 0x8008 (four_bytes (length d) l h) refl

  pub six_only : 2147483643 < length d → length d ≤ 140737488355323 → OnlyOne cp c d start 0x800A
  six_only l h = only_one 6 0x800A (six_bytes (length d) l h) refl

  pub eight_only : 140737488355323 < length d → OnlyOne cp c d start 0x800C
  eight_only l = only_one 8 0x800C (eight_bytes (length d) l) refl

-- 2^31 bytes of data, and 2^48, each in a room of just the length
module _ (κ₂ : Lfts 2) where
  just : (n k : ℕ) → length_bytes n ≡ k → length (built 0x2414 (filled n)) ≤ length (filled (4 + k + n))
  just n k e = omega (arith, length_built 0x2414 (filled n), ap length_bytes (filled_length n) ∙ e, filled_length n, filled_length (4 + k + n))

  pub six_only_met : OnlyOne 0x2001 0x2414 (filled 2147483648) (filled 2147483658) 0x800A
  six_only_met =
      let l : length (filled 2147483648) ≡ 2147483648 = filled_length 2147483648 in
      six_only κ₂ 0x2001 0x2414 (filled 2147483648) (filled 2147483658) (omega arith) (omega arith) (just 2147483648 6 (six_bytes 2147483648 (omega arith) (omega arith))) (omega arith) (omega arith)

  pub eight_only_met : OnlyOne 0x2001 0x2414 (filled 281474976710656) (filled 281474976710668) 0x800C
  eight_only_met =
      let l : length (filled 281474976710656) ≡ 281474976710656 = filled_length 281474976710656 in
      eight_only κ₂ 0x2001 0x2414 (filled 281474976710656) (filled 281474976710668) (omega arith) (omega arith) (just 281474976710656 8 (eight_bytes 281474976710656 (omega arith))) (omega arith)
