-- The laws of bytes laid down as the writer cuts them: one part behind the other, how long they are, and what no cut divides.
use Prim.Native.Nat.{ℕ, suc, ◌+◌, ◌-◌, ◌%◌, ◌≤◌, ◌<◌}
use native.Mathlib.Omega.{arith}
use native.Mathlib.Decide.{dec_le}
use mathlib.Core.Path.{◌≡◌, refl, sym, ap, ap₂, ◌∙◌}
use mathlib.Core.Bool.{Bool, true, false}
use mathlib.Core.List.{List, [], ◌∷◌, ◌++◌, append_assoc}
use lib.Dec.{leb, eqb}
use lib.ListN.{length, length-append}
use borrow.Author.Tests.{le-leb, lt-leb, eq-eqb, ne_eqb}
use Rattle.wire.specs.Bytes.{pick, and, two}
use Rattle.wire.proofs.WireLaws.{pick_yes, pick_no, and_both, and_no}
use Rattle.dss_frame.specs.Written.{frame_size}
use Rattle.ddm_change.specs.inner.Carried.{uncut}
use Rattle.ddm_change.proofs.CarriedLaws.{uncut_first, uncut_later}
use Rattle.ddm_change.specs.inner.Outlay.{starts, raw_at, outlaid}

-- ---- where continuations start

pub starts_yes : (i : ℕ) → 32761 ≤ i → (i - 32761) % 32765 ≡ 0 → starts i ≡ true
starts_yes i h e = and_both _ _ (le-leb 32761 i h) (eq-eqb ((i - 32761) % 32765) 0 e)

pub starts_before : (i : ℕ) → i < 32761 → starts i ≡ false
starts_before i h = ap (λ (t : Bool). and t (eqb ((i - 32761) % 32765) 0)) (lt-leb 32761 i h)

pub starts_no : (i : ℕ) → 0 < (i - 32761) % 32765 → starts i ≡ false
starts_no i h = ap (and (leb 32761 i)) (ne_eqb ((i - 32761) % 32765) 0 (λ e. omega arith)) ∙ and_no (leb 32761 i)

-- the three cases
pub starts_by {ℓ} : {P : Type ℓ} (i : ℕ) → (starts i ≡ true → 32761 ≤ i → (i - 32761) % 32765 ≡ 0 → P) → (starts i ≡ false → i < 32761 → P)
    → (starts i ≡ false → 32761 ≤ i → 0 < (i - 32761) % 32765 → P) → P
starts_by i at before between =
    elim (dec_le 32761 i) [
      | yes h ↦ elim (dec_le 1 ((i - 32761) % 32765)) [
        | yes k ↦ between (starts_no i (omega arith)) h (omega arith)
        | no k ↦ let z : (i - 32761) % 32765 ≡ 0 = omega arith in at (starts_yes i h z) h z
      ]
      | no h ↦ before (starts_before i (omega arith)) (omega arith)
    ]

-- ---- one behind the other

pub outlaid_append : (n i : ℕ) (a b : List ℕ) → outlaid n i (a ++ b) ≡ outlaid n i a ++ outlaid n (i + length a) b
unfolding outlaid
outlaid_append n i [] b = let z : i ≡ i + 0 = omega arith in ap (λ (k : ℕ). outlaid n k b) z
outlaid_append n i (x ∷ a) b =
    let mark : List ℕ = pick (starts i) (two (raw_at n i)) [] in
    let z : i + 1 + length a ≡ i + suc (length a) = omega arith in
    ap (λ (l : List ℕ). mark ++ (x ∷ l)) (outlaid_append n (i + 1) a b ∙ ap (λ (k : ℕ). outlaid n (i + 1) a ++ outlaid n k b) z)
    ∙ sym (append_assoc mark (x ∷ outlaid n (i + 1) a) (outlaid n (i + suc (length a)) b))

-- ---- how long they are

pub frame_size_grows : (i j : ℕ) → i ≤ j → frame_size i ≤ frame_size j
unfolding frame_size
frame_size_grows i j h = omega arith

pub size_none : frame_size 0 ≡ 6
unfolding frame_size
size_none = omega arith

-- a byte, and the length before it
size_next : (n i : ℕ) → frame_size i + (length (pick (starts i) (two (raw_at n i)) []) + 1) ≡ frame_size (i + 1)
unfolding frame_size
size_next n i =
    starts_by i (λ e h z. omega (arith, ap length (pick_yes (two (raw_at n i)) [] e))) (λ e h. omega (arith, ap length (pick_no (two (raw_at n i)) [] e)))
    (λ e h z. omega (arith, ap length (pick_no (two (raw_at n i)) [] e)))

pub outlaid_length : (n i : ℕ) (b : List ℕ) → frame_size i + length (outlaid n i b) ≡ frame_size (i + length b)
unfolding outlaid
outlaid_length n i [] = let z : i ≡ i + 0 = omega arith in omega (arith, ap frame_size z)
outlaid_length n i (x ∷ b) =
    let mark : List ℕ = pick (starts i) (two (raw_at n i)) [] in
    let z : i + 1 + length b ≡ i + suc (length b) = omega arith in
    omega (arith, length-append mark (x ∷ outlaid n (i + 1) b), size_next n i, outlaid_length n (i + 1) b, ap frame_size z)

-- ---- a piece that no cut divides

-- up to the cut nothing starts
uncut_next : (i : ℕ) → 1 < uncut i → (starts (i + 1) ≡ false) × (uncut (i + 1) ≡ uncut i - 1)
uncut_next i h =
    elim (dec_le 32761 i) [
      | yes k ↦ let u : uncut i ≡ 32765 - (i - 32761) % 32765 = uncut_later i k in
          (starts_no (i + 1) (omega arith), omega (arith, uncut_later (i + 1) (omega arith)))
      | no k ↦ let u : uncut i ≡ 32761 - i = uncut_first i (omega arith) in
          (starts_before (i + 1) (omega arith), omega (arith, uncut_first (i + 1) (omega arith)))
    ]

inside : (n i : ℕ) (b : List ℕ) → length b < uncut i → outlaid n (i + 1) b ≡ b
unfolding outlaid
inside n i [] h = refl
inside n i (x ∷ b) h =
    let k : (starts (i + 1) ≡ false) × (uncut (i + 1) ≡ uncut i - 1) = uncut_next i (omega arith) in
    ap₂ (λ (m l : List ℕ). m ++ (x ∷ l)) (pick_no (two (raw_at n (i + 1))) [] k.0) (inside n (i + 1) b (omega (arith, k.1)))

pub outlaid_piece : (n i : ℕ) (b : List ℕ) → 0 < length b → length b ≤ uncut i → outlaid n i b ≡ pick (starts i) (two (raw_at n i)) [] ++ b
unfolding outlaid
outlaid_piece n i [] o h = absurd (omega arith)
outlaid_piece n i (x ∷ b) o h = ap (λ (l : List ℕ). pick (starts i) (two (raw_at n i)) [] ++ (x ∷ l)) (inside n i b (omega arith))

module _ (n i : ℕ) (b : List ℕ) (o : 0 < length b) (l : length b ≤ uncut i) where
  pub piece_between : starts i ≡ false → outlaid n i b ≡ b
  piece_between e = outlaid_piece n i b o l ∙ ap (λ (m : List ℕ). m ++ b) (pick_no (two (raw_at n i)) [] e)

  pub piece_starting : starts i ≡ true → outlaid n i b ≡ two (raw_at n i) ++ b
  piece_starting e = outlaid_piece n i b o l ∙ ap (λ (m : List ℕ). m ++ b) (pick_yes (two (raw_at n i)) [] e)
