-- Bytes that have DRDA volume 3's layout of an object are read as it says, wherever they stand; so are the bytes that are built.
use Rattle.std.specs.Prelude.{Result, Ok}
use Prim.Native.Nat.{ℕ, ◌+◌, ◌-◌, ◌^◌, ◌≤◌, ◌<◌}
use native.Mathlib.Omega.{arith}
use mathlib.Core.Path.{◌≡◌, refl, sym, ap, ap₂, subst, ◌∙◌}
use mathlib.Core.Bool.{Bool, false}
use mathlib.Core.List.{List, [], ◌++◌, append_assoc, append-nil}
use borrow.Author.Tests.{le-leb, eqb-true}
use lib.Dec.{leb, eqb}
use lib.ListN.{length, take, drop, length-append}
use lib.Seq.{drop-drop, drop_at, take_at}
use Rattle.wire.specs.Bytes.{pick, and, be16, two, laid}
use Rattle.wire.proofs.WireLaws.{by, and_no, pick_yes, pick_no, be16_front}
use Rattle.wire.proofs.Places.{here_length}
use Rattle.wire.proofs.Splicing.{laid_fits, splice_none}
use Rattle.layouts.specs.DdmLayout.{Ddm, inline, extended, streamed, Streamed}
use Rattle.ddm_length.specs.Markers.{has_markers}
use Rattle.ddm_builder.specs.Built.{length_bytes, built}
use Rattle.ddm_builder.proofs.BuiltForms.{length_built, inline_bytes, four_bytes, six_bytes, eight_bytes}
use Rattle.ddm_object.specs.Objects.{object, parsed}
use Rattle.ddm_object.specs.ObjectCalls.{lies_in_work, work_of, object_record, given_parsed, work_parsed, object_at, ObjectAt}
use Rattle.ddm_object.proofs.DataParsed.{data_parsed}
use Rattle.ddm_object.proofs.ObjectReads.{made}
use Rattle.ddm_laws.proofs.FormLaws.{some_bytes}
use Rattle.ddm_laws.proofs.LayoutLaws.{built_ddm, built_ends, ddm_parsed}
use Rattle.demands_ddm.specs.ReadingBack.{plain, data_of, built_header, ReadsAs}
use Rattle.ddm_object.specs.declared.DdmObject.{DdmObject}
use Rattle.answer.specs.declared.Refused.{Refused}

-- the data are the last bytes
pub ends_with : {cp : ℕ} {d p : List ℕ} → Ddm cp d p → (h : List ℕ) × (p ≡ h ++ d) × (4 ≤ length h)
ends_with {cp} {d} (inline k) = (two (length d + 4) ++ two cp, refl, omega arith)
ends_with {cp} {d} (extended k ls w e says) = (two (0x8004 + k) ++ (two cp ++ ls), refl, omega arith)
ends_with {cp} {d} streamed = (two 0x8004 ++ two cp, refl, omega arith)

-- without length bytes they are all behind the code point
streamed_data : {cp : ℕ} {d p : List ℕ} → Ddm cp d p → Streamed p → drop 4 p ≡ d
streamed_data (inline k) e = absurd (omega arith)
streamed_data (extended k ls w e says) q = absurd (omega (arith, some_bytes w))
streamed_data streamed e = refl

pub nothing_laid : (work : List ℕ) → laid work 0 [] ≡ work
nothing_laid work = laid_fits work 0 [] (omega arith) ∙ splice_none work 0

-- ---- bytes with the layout, at a place of a run: all that is left of it, and without markers, where the data goes on to the end

module _ (cp : ℕ) (d p : List ℕ) (w : Ddm cp d p) (small : cp < 65536) (few : length d < 2 ^ 63) (s rest : List ℕ) (place : ℕ) (e : drop place s ≡ p ++ rest) (alone : Streamed p → rest ≡ []) (plain_data : Streamed p → has_markers d ≡ false) where
  size : (length d ≤ length p) × (4 ≤ length p)
  size = let h = ends_with w in omega (arith, ap length h.1, length-append h.0 d, h.2)

  pub parsed_there : parsed (drop place s) place ≡ object (made cp d (length p))
  parsed_there = ap (λ (b : List ℕ). parsed b place) e ∙ ddm_parsed cp d p rest place small few w alone plain_data

  raw_there : be16 (drop place s) 0 ≡ be16 p 0
  raw_there = ap (λ (b : List ℕ). be16 b 0) e ∙ be16_front p rest 0 (omega (arith, size))

  -- none of them goes through the work area
  pub not_in_work : lies_in_work (drop place s) ≡ false
  not_in_work =
      by (eqb (be16 p 0) 0x8004)
      (λ t. let raw : Streamed p = eqb-true (be16 p 0) 0x8004 t in
      ap (and (eqb (be16 (drop place s) 0) 0x8004))
      (ap (λ (b : List ℕ). has_markers (drop 4 b)) (e ∙ ap (λ (r : List ℕ). p ++ r) (alone raw) ∙ append-nil p)
      ∙ ap has_markers (streamed_data w raw)
      ∙ plain_data raw)
      ∙ and_no (eqb (be16 (drop place s) 0) 0x8004))
      (λ t. ap (λ (n : Bool). and n (has_markers (drop 4 (drop place s)))) (ap (λ (n : ℕ). eqb n 0x8004) raw_there ∙ t))

  pub no_work : work_of s place (made cp d (length p)) ≡ []
  no_work = pick_no _ _ not_in_work

  pub record_there : object_record s place (made cp d (length p)) ≡ plain place cp (length p - length d) (length d)
  record_there =
      let n : length p ≡ (length p - length d) + length d = omega (arith, size) in
      ap₂ (λ (t : Bool) (m : ℕ). record { code_point = cp; in_work = t; data_at = pick t 0 (place + (length p - length d)); data_len = length d; consumed = m }) not_in_work n

  pub data_there : data_of s (plain place cp (length p - length d) (length d)) ≡ d
  data_there =
      let h : List ℕ = (ends_with w).0 in
      let q : p ≡ h ++ d = (ends_with w).1 in
      let l : length h ≡ length p - length d = omega (arith, ap length q, length-append h d) in
      ap (take (length d))
      (sym (drop-drop (length p - length d) place s)
      ∙ ap (drop (length p - length d)) (e ∙ ap (λ (b : List ℕ). b ++ rest) q ∙ append_assoc h d rest)
      ∙ drop_at h (d ++ rest) (length p - length d) l)
      ∙ take_at d rest (length d) refl

  -- what the contract of `object_at` allows
  pub layout_read : (work : List ℕ) (r : Result DdmObject Refused) (after : List ℕ) → ObjectAt s place work r after → ReadsAs cp d s place (length p - length d) work r after
  unfolding object_at
  layout_read work r after x =
      let l : length s - place ≡ length p + length rest = here_length s p rest place e in
      record {
        is =
            x.answers
            ∙ pick_yes _ _ (le-leb place (length s) (omega (arith, size)))
            ∙ ap (given_parsed s place (length work)) parsed_there
            ∙ pick_yes _ _ (ap (λ (b : List ℕ). leb (length b) (length work)) no_work ∙ le-leb 0 (length work) (omega arith))
            ∙ ap Ok record_there;
        data_is = data_there;
        work_is = x.work_is ∙ ap (work_parsed s place work) parsed_there ∙ ap (laid work 0) no_work ∙ nothing_laid work;
      }

  -- the bytes that `object_data` hands back
  pub data_handed : (size : ℕ) → data_parsed s place size (parsed (drop place s) place) ≡ d
  data_handed size =
      ap (data_parsed s place size) parsed_there
      ∙ pick_yes _ _ (ap (λ (b : List ℕ). leb (length b) size) no_work ∙ le-leb 0 size (omega arith))

-- ---- what was built

module _ (cp : ℕ) (d : List ℕ) (small : cp < 65536) (few : length d < 2 ^ 63) (s rest : List ℕ) (place : ℕ) (e : drop place s ≡ built cp d ++ rest) where
  alone : Streamed (built cp d) → rest ≡ []
  alone q = absurd (built_ends cp d few q)

  plain_data : Streamed (built cp d) → has_markers d ≡ false
  plain_data q = absurd (built_ends cp d few q)

  pub built_no_work : work_of s place (made cp d (length (built cp d))) ≡ []
  built_no_work = no_work cp d (built cp d) (built_ddm cp d few) small few s rest place e alone plain_data

  header : length (built cp d) - length d ≡ built_header d
  header = omega (arith, length_built cp d)

  -- one law for every number of length bytes
  pub built_read : (work : List ℕ) (r : Result DdmObject Refused) (after : List ℕ) → ObjectAt s place work r after → ReadsAs cp d s place (built_header d) work r after
  built_read work r after x =
      subst (λ (h : ℕ). ReadsAs cp d s place h work r after) header (layout_read cp d (built cp d) (built_ddm cp d few) small few s rest place e alone plain_data work r after x)

  pub built_record : (object_record s place (made cp d (length (built cp d))) ≡ plain place cp (built_header d) (length d)) × (data_of s (plain place cp (built_header d) (length d)) ≡ d)
  built_record = (
    record_there cp d (built cp d) (built_ddm cp d few) small few s rest place e alone plain_data ∙ ap (λ (h : ℕ). plain place cp h (length d)) header,
    ap (λ (h : ℕ). data_of s (plain place cp h (length d))) (sym header) ∙ data_there cp d (built cp d) (built_ddm cp d few) small few s rest place e alone plain_data,
  )

  pub built_data : (size : ℕ) → data_parsed s place size (parsed (drop place s) place) ≡ d
  built_data = data_handed cp d (built cp d) (built_ddm cp d few) small few s rest place e alone plain_data

  -- the four forms: inline, and with four, six or eight length bytes
  module _ (work : List ℕ) (r : Result DdmObject Refused) (after : List ℕ) (x : ObjectAt s place work r after) where
    with_bytes : (k : ℕ) → length_bytes (length d) ≡ k → ReadsAs cp d s place (4 + k) work r after
    with_bytes k q = subst (λ (j : ℕ). ReadsAs cp d s place (4 + j) work r after) q (built_read work r after x)

    pub inline_read : length d ≤ 32763 → ReadsAs cp d s place 4 work r after
    inline_read h = with_bytes 0 (inline_bytes (length d) h)

    pub four_read : 32763 < length d → length d ≤ 2147483643 → ReadsAs cp d s place 8 work r after
    four_read l h = with_bytes 4 (four_bytes (length d) l h)

    pub six_read : 2147483643 < length d → length d ≤ 140737488355323 → ReadsAs cp d s place 10 work r after
    six_read l h = with_bytes 6 (six_bytes (length d) l h)

    pub eight_read : 140737488355323 < length d → ReadsAs cp d s place 12 work r after
    eight_read l = with_bytes 8 (eight_bytes (length d) l)
