-- What the calls that build lay down has DRDA volume 3's layout, and is read back as it was built; over the calls' contracts.
use Rattle.std.specs.Prelude.{Result, Ok}
use Prim.Native.Nat.{ℕ, ◌+◌, ◌^◌, ◌≤◌, ◌<◌}
use native.Mathlib.Omega.{arith}
use mathlib.Core.Path.{◌≡◌, refl, sym, ap, subst, subst₂, ◌∙◌}
use mathlib.Core.Bool.{Bool, false}
use mathlib.Core.List.{List, [], ◌++◌, append-nil}
use borrow.Author.Tests.{le-leb, eqb-true}
use lib.Dec.{eqb}
use lib.ListN.{length, take, drop}
use lib.Seq.{take_at, drop_at}
use Rattle.wire.specs.Bytes.{and, be16, splice, Octets}
use Rattle.wire.proofs.WireLaws.{by, and_no, pick_yes}
use Rattle.wire.proofs.Splicing.{laid_fits}
use Rattle.answer.specs.Rooms.{laid_at_start, Lays}
use Rattle.layouts.specs.DdmLayout.{Documented, Ddm, Streamed}
use Rattle.ddm_length.specs.Markers.{has_markers}
use Rattle.ddm_builder.specs.Built.{built}
use Rattle.ddm_builder.specs.Builder.{builder_object, Builds}
use Rattle.ddm_builder.specs.declared.DdmBuilder.{DdmBuilder}
use Rattle.ddm_object.specs.ObjectCalls.{lies_in_work, ObjectAt}
use Rattle.ddm_object.proofs.DataLaws.{Given, given_of, run_data}
use Rattle.ddm_object.proofs.ObjectRecords.{rec_in}
use Rattle.ddm_object.specs.declared.DdmObject.{DdmObject}
use Rattle.ddm_laws.proofs.LayoutLaws.{built_ddm}
use Rattle.ddm_laws.proofs.Complete.{read_ddm}
use Rattle.demands_ddm.specs.ReadingBack.{LaidFirst, data_of, built_header, ReadsAs}
use Rattle.demands_ddm.proofs.LayoutRead.{built_read}
use Rattle.answer.specs.declared.Refused.{Refused}

-- ---- laid down where there is room

laid_first : (bytes room : List ℕ) (place : ℕ) (r : Result ℕ Refused) (after : List ℕ) → length bytes ≤ length room
    → r ≡ laid_at_start place (length room) (length bytes) → after ≡ splice room 0 bytes → LaidFirst bytes room r after
unfolding splice
laid_first bytes room place r after h e q =
    let n : 0 + length bytes ≡ length bytes = omega arith in
    let w : after ≡ bytes ++ drop (length bytes) room = q ∙ ap (λ (m : ℕ). bytes ++ drop m room) n in
    record {
      is = e ∙ pick_yes _ _ (le-leb (length bytes) (length room) h);
      first = ap (take (length bytes)) w ∙ take_at bytes (drop (length bytes) room) (length bytes) refl;
      behind = ap (drop (length bytes)) w ∙ drop_at bytes (drop (length bytes) room) (length bytes) refl;
      whole = w;
    }

pub lays_first : (bytes room : List ℕ) (r : Result ℕ Refused) (after : List ℕ) → length bytes ≤ length room → Lays bytes room r after → LaidFirst bytes room r after
lays_first bytes room r after h p = laid_first bytes room 0 r after h p.answers (p.room_is ∙ laid_fits room 0 bytes (omega arith))

-- `DdmBuilder::build`: of the filled part
pub builds_first : (b : DdmBuilder) (content room : List ℕ) (r : Result ℕ Refused) (after : List ℕ) → b.fill ≤ length content → length (builder_object b content) ≤ length room
    → Builds b content room r after → LaidFirst (builder_object b content) room r after
builds_first b content room r after f h p =
    laid_first (builder_object b content) room b.fill r after h (p.answers ∙ pick_yes _ _ (le-leb b.fill (length content) f))
    (p.room_is ∙ pick_yes _ _ (le-leb b.fill (length content) f) ∙ laid_fits room 0 (builder_object b content) (omega arith))

-- ---- an object laid down has the layout, and is read back

module _ (cp : ℕ) (d room : List ℕ) (small : cp < 65536) (few : length d < 2 ^ 63) (r : Result ℕ Refused) (after : List ℕ) (w : LaidFirst (built cp d) room r after) where
  pub laid_layout : Ddm cp d (take (length (built cp d)) after)
  laid_layout = subst (Ddm cp d) (sym w.first) (built_ddm cp d few)

  module _ (work : List ℕ) (x : Result DdmObject Refused) (workAfter : List ℕ) where
    -- read from the room as it is
    pub laid_parsed : ObjectAt after 0 work x workAfter → ReadsAs cp d after 0 (built_header d) work x workAfter
    laid_parsed p = built_read cp d small few after (drop (length (built cp d)) room) 0 w.whole work x workAfter p

    -- read from the bytes answered alone
    pub part_parsed : ObjectAt (take (length (built cp d)) after) 0 work x workAfter → ReadsAs cp d (take (length (built cp d)) after) 0 (built_header d) work x workAfter
    part_parsed p = built_read cp d small few (take (length (built cp d)) after) [] 0 (w.first ∙ sym (append-nil (built cp d))) work x workAfter p

-- ---- and the other way: what is read has the layout, for the lengths that the volume knows, and without markers

module _ (s : List ℕ) (place : ℕ) (work : List ℕ) (o : DdmObject) (after : List ℕ) (doc : Documented (be16 (drop place s) 0)) (none : Streamed (drop place s) → has_markers (drop 4 (drop place s)) ≡ false) where
  run_only : lies_in_work (drop place s) ≡ false
  run_only =
      by (eqb (be16 (drop place s) 0) 0x8004)
      (λ t. ap (and (eqb (be16 (drop place s) 0) 0x8004)) (none (eqb-true (be16 (drop place s) 0) 0x8004 t)) ∙ and_no (eqb (be16 (drop place s) 0) 0x8004))
      (λ t. ap (λ (n : Bool). and n (has_markers (drop 4 (drop place s)))) t)

  pub read_layout : Octets (drop place s) → ObjectAt s place work (Ok o) after → (o.in_work ≡ false) × Ddm o.code_point (data_of s o) (take o.consumed (drop place s))
  read_layout oct p =
      let b : List ℕ = drop place s in
      let g : Given s place (length work) o = given_of s place (length work) o (sym p.answers) in
      let i : o.in_work ≡ false = rec_in b place 0 work o g.of ∙ run_only in (
        i,
        subst (λ (n : ℕ). Ddm o.code_point (data_of s o) (take n b)) (ap (λ (x : DdmObject). x.consumed) g.of.is)
            (subst₂ (λ (c : ℕ) (d : List ℕ). Ddm c d (take g.of.of.consumed b)) (ap (λ (x : DdmObject). x.code_point) g.of.is) (sym (run_data s place work o g i))
            (read_ddm b place g.of.of oct g.of.read doc none)),
      )
