-- The layout's statements of the definitions that the contracts cite: `built` and `parsed`.
use Prim.Native.Nat.{ℕ, suc, ◌+◌, ◌-◌, ◌^◌, ◌<◌}
use native.Mathlib.Omega.{arith}
use mathlib.Core.Path.{◌≡◌, sym, ap, ◌∙◌}
use mathlib.Core.List.{List, ◌++◌}
use lib.ListN.{length, take, length-append}
use lib.Seq.{take_at, take_all, drop-append_seam}
use Rattle.wire.specs.Bytes.{two, spelled}
use Rattle.layouts.specs.DdmLayout.{Ddm}
use Rattle.ddm_length.proofs.TakenLengths.{wide}
use Rattle.ddm_length.specs.Markers.{unmarked}
use Rattle.ddm_builder.specs.Built.{built}
use Rattle.ddm_object.specs.Objects.{parsed}
use Rattle.ddm_object.proofs.ObjectReads.{made, Reads, own_reads}
use Rattle.ddm_laws.proofs.LayoutLaws.{built_ddm, built_ends, ddm_parsed, streamed_parsed, ddm_fixes}
use Rattle.ddm_laws.proofs.Complete.{read_ddm}
use Rattle.demands_ddm.specs.DdmLayouts.{read_as, BuildsLayout, ReadsDdmLayout, RemovesMarkers, ReadsOtherWidths, ReadHasLayout, FixesObject}

pub builds_layout : BuildsLayout built
builds_layout cp d f = (built_ddm cp d f.1, built_ends cp d f.1)

pub reads_layout : ReadsDdmLayout parsed
reads_layout cp d p behind place f w alone plain = ddm_parsed cp d p behind place f.0 f.1 w alone plain

pub removes_markers : RemovesMarkers parsed
removes_markers cp d place small =
    streamed_parsed cp d place small ∙ ap (λ (n : ℕ). read_as cp (unmarked d) n) (let z : length (two 0x8004 ++ (two cp ++ d)) ≡ 4 + length d = omega arith in z)

pub reads_other_widths : ReadsOtherWidths parsed
reads_other_widths cp d ls behind place f (lo, hi) says =
    let p : List ℕ = two (0x8004 + length ls) ++ (two cp ++ (ls ++ d)) in
    let h : ℕ = suc (suc (suc (suc (length ls)))) in
    let whole : length p ≡ 4 + length ls + length d = omega (arith, length-append ls d) in
    let total : length p ≡ h + length d = omega (arith, length-append ls d) in
    let few : length d < 2 ^ 63 = f.1 in
    let r : Reads p (made cp d (length p)) =
    own_reads p h cp d
    (wide (omega arith) (omega arith) (total ∙ ap (λ (n : ℕ). h + n) (sym says) ∙ ap (λ (l : List ℕ). h + spelled 0 l) (sym (take_at ls d (h - 4) (omega arith)))) (omega arith) (omega arith))
    (λ e. omega arith) (omega (arith, f.0)) (ap (take (length p - h)) (drop-append_seam ls d) ∙ take_all (length p - h) d (omega arith)) in
    r.back behind place ∙ ap (λ (n : ℕ). read_as cp d n) whole

pub read_has_layout : ReadHasLayout parsed
read_has_layout b place o oct doc plain e = read_ddm b place o oct e doc plain

pub fixes_object : FixesObject Ddm
fixes_object = ddm_fixes
