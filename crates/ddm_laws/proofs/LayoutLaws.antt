-- What is built has DRDA volume 3's layout, and what has it is read as it says; but markers in data that goes on to the end
-- are removed.
use Prim.Native.Nat.{ℕ, suc, ◌+◌, ◌-◌, ◌^◌, ◌≤◌, ◌<◌}
use native.Mathlib.Omega.{arith}
use mathlib.Core.Path.{◌≡◌, refl, sym, subst, ap, ◌∙◌}
use mathlib.Core.Bool.{false}
use mathlib.Core.List.{List, [], ◌++◌, append-nil}
use borrow.Author.Tests.{lt-ltb, le-ltb}
use lib.Dec.{ltb}
use lib.ListN.{length, drop}
use lib.Seq.{drop_at}
use Rattle.wire.specs.Bytes.{pick, two, be16, last}
use Rattle.wire.proofs.WireLaws.{two_back, pick_yes, pick_no}
use Rattle.layouts.specs.DdmLayout.{Ddm, inline, extended, streamed, Streamed}
use Rattle.ddm_length.specs.Markers.{has_markers, unmarked}
use Rattle.ddm_length.proofs.TakenLengths.{all}
use Rattle.ddm_builder.specs.Built.{built_with, built}
use Rattle.ddm_object.specs.Objects.{object, parsed}
use Rattle.wire.proofs.Widths.{length_last, spelled_last}
use Rattle.ddm_builder.proofs.BuiltForms.{built_wide}
use Rattle.ddm_laws.proofs.FormLaws.{some_bytes, Form, form}
use Rattle.ddm_laws.proofs.FormLaws as Forms
use Rattle.ddm_object.proofs.ObjectReads.{made, taken_parsed, Reads, inline_reads, wide_reads}

-- what is built has the layout
pub built_ddm : (cp : ℕ) (d : List ℕ) → length d < 2 ^ 63 → Ddm cp d (built cp d)
unfolding built
built_ddm cp d few = go (form (length d) few)
  where
    go : {k : ℕ} → Form (length d) k → Ddm cp d (built_with k cp d)
    go (Forms.inline h) = inline (omega arith)
    go (Forms.wide {k = k} w h) =
        subst (Ddm cp d) (sym (built_wide k cp d (some_bytes w).0)) (extended k (last k (length d)) w (length_last k (length d)) (spelled_last k (length d) h))

-- what is built has an end of its own
pub built_ends : (cp : ℕ) (d : List ℕ) → length d < 2 ^ 63 → ¬ Streamed (built cp d)
unfolding built
built_ends cp d few = go (form (length d) few)
  where
    go : {k : ℕ} → Form (length d) k → ¬ Streamed (built_with k cp d)
    go (Forms.inline h) = λ e. omega arith
    go (Forms.wide {k = k} w h) = λ e.
        let b : (0 < k) × (k ≤ 8) = some_bytes w in
        let q : be16 (two (0x8004 + k) ++ (two cp ++ (last k (length d) ++ d))) 0 ≡ 0x8004 = ap (λ (p : List ℕ). be16 p 0) (sym (built_wide k cp d b.0)) ∙ e in
        omega arith

-- what has the layout and an end of its own is read, whatever stands behind it
pub ddm_reads : (cp : ℕ) (d : List ℕ) {p : List ℕ} → cp < 65536 → length d < 2 ^ 63 → Ddm cp d p → ¬ Streamed p → Reads p (made cp d (length p))
ddm_reads cp d small few (inline h) n = inline_reads cp d small h
ddm_reads cp d small few (extended k ls w e says) n =
    let b : (0 < k) × (k ≤ 8) = some_bytes w in
    subst (λ (j : ℕ). let p = two (0x8004 + j) ++ (two cp ++ (ls ++ d)) in Reads p (made cp d (length p))) e
    (wide_reads cp d small ls (omega arith) (omega arith) says few)
ddm_reads cp d small few streamed n = absurd (n refl)

-- data that goes on to the end is all that stands there, markers removed
pub streamed_parsed : (cp : ℕ) (d : List ℕ) (place : ℕ) → cp < 65536 → let p = two 0x8004 ++ (two cp ++ d) in parsed p place ≡ object (made cp (unmarked d) (length p))
streamed_parsed cp d place small =
    let p : List ℕ = two 0x8004 ++ (two cp ++ d) in
    taken_parsed p (length p) 4 place (all (omega arith) refl refl refl) ∙ ap (λ (n : ℕ). object (made n (unmarked d) (length p))) (omega arith)

-- where there are none, it is read as it says
pub no_markers : (d : List ℕ) → has_markers d ≡ false → unmarked d ≡ d
unfolding unmarked
no_markers d e = pick_no _ _ e

-- laid out, at a place with what stands behind: read as it says, where it has an end of its own, or is all that is left and
-- its data has no markers
pub ddm_parsed : (cp : ℕ) (d p rest : List ℕ) (place : ℕ) → cp < 65536 → length d < 2 ^ 63 → Ddm cp d p → (Streamed p → rest ≡ []) → (Streamed p → has_markers d ≡ false)
    → parsed (p ++ rest) place ≡ object (made cp d (length p))
ddm_parsed cp d p rest place small few w alone plain = go w alone plain
  where
    own : {p : List ℕ} → Ddm cp d p → ¬ Streamed p → parsed (p ++ rest) place ≡ object (made cp d (length p))
    own w n = (ddm_reads cp d small few w n).back rest place

    go : {p : List ℕ} → Ddm cp d p → (Streamed p → rest ≡ []) → (Streamed p → has_markers d ≡ false) → parsed (p ++ rest) place ≡ object (made cp d (length p))
    go (inline h) a m = own (inline h) (λ e. omega arith)
    go (extended k ls w e says) a m = own (extended k ls w e says) (λ q. let b : (0 < k) × (k ≤ 8) = some_bytes w in omega arith)
    go streamed a m =
        let p : List ℕ = two 0x8004 ++ (two cp ++ d) in
        ap (λ (r : List ℕ). parsed (p ++ r) place) (a refl)
        ∙ ap (λ (s : List ℕ). parsed s place) (append-nil p)
        ∙ streamed_parsed cp d place small
        ∙ ap (λ (x : List ℕ). object (made cp x (length p))) (no_markers d (m refl))

-- ---- a layout fixes its object

-- the header's length, by the raw length
abbrev header_by : ℕ → ℕ
header_by raw = pick (ltb raw 0x8000) 4 (raw - 0x8000)

header_wide : (k : ℕ) → header_by (0x8004 + k) ≡ suc (suc (suc (suc k)))
header_wide k = pick_no _ _ (le-ltb (0x8004 + k) 0x8000 (omega arith)) ∙ omega arith

-- the bytes say which code point and which data
ddm_says : (cp : ℕ) (d p : List ℕ) → cp < 65536 → Ddm cp d p → (be16 p 2 ≡ cp) × (drop (header_by (be16 p 0)) p ≡ d)
ddm_says cp d p small w = go w
  where
    go : {p : List ℕ} → Ddm cp d p → (be16 p 2 ≡ cp) × (drop (header_by (be16 p 0)) p ≡ d)
    go (inline h) =
        let p : List ℕ = two (length d + 4) ++ (two cp ++ d) in
        (omega arith, ap (λ (n : ℕ). drop n p) (ap header_by (two_back (length d + 4) (two cp ++ d) (omega arith)) ∙ pick_yes _ _ (lt-ltb (length d + 4) 0x8000 (omega arith))))
    go (extended k ls w e says) =
        let b : (0 < k) × (k ≤ 8) = some_bytes w in
        let p : List ℕ = two (0x8004 + k) ++ (two cp ++ (ls ++ d)) in
        (omega arith, ap (λ (n : ℕ). drop n p) (ap header_by (two_back (0x8004 + k) (two cp ++ (ls ++ d)) (omega arith)) ∙ header_wide k) ∙ drop_at ls d k e)
    go streamed = (omega arith, refl)

pub ddm_fixes : (cp cp' : ℕ) (d d' p : List ℕ) → cp < 65536 → cp' < 65536 → Ddm cp d p → Ddm cp' d' p → (cp ≡ cp') × (d ≡ d')
ddm_fixes cp cp' d d' p small small' w w' =
    let x = ddm_says cp d p small w in
    let y = ddm_says cp' d' p small' w' in
    (sym x.0 ∙ y.0, sym x.1 ∙ y.1)

-- ---- what was built

module _ (cp : ℕ) (d : List ℕ) (small : cp < 65536) (few : length d < 2 ^ 63) where
  pub built_reads : Reads (built cp d) (made cp d (length (built cp d)))
  built_reads = ddm_reads cp d small few (built_ddm cp d few) (built_ends cp d few)

  -- read back: inline, or with four, six or eight length bytes
  pub parse_back : (rest : List ℕ) (place : ℕ) → parsed (built cp d ++ rest) place ≡ object (made cp d (length (built cp d)))
  parse_back = built_reads.back
