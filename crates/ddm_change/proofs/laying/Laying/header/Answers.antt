-- `ddm_change::laying::Laying::header` meets its contract: twelve bytes hold any header, and the front of them is laid down.
use Prim.Native.Nat.{ℕ, ◌+◌, ◌≤◌}
use native.Mathlib.Omega.{arith}
use mathlib.Core.Path.{◌≡◌, refl, ap, ap₂, ◌∙◌}
use mathlib.Core.List.{List}
use lib.ListN.{length}
use Rattle.wire.specs.Bytes.{part, splice, laid}
use Rattle.wire.proofs.Splicing.{splice_length, splice_part, laid_fits}
use Rattle.ddm_builder.specs.Built.{length_bytes}
use Rattle.ddm_builder.proofs.BuiltForms.{few_bytes}
use Rattle.ddm_builder.specs.Headers.{header_of}
use Rattle.ddm_builder.proofs.HeaderLaws.{length_header}
use Rattle.ddm_change.proofs.laying.Laying.header.Goals as goal

-- the header at the start of twelve bytes, which carry themselves
module _ (r h v : List ℕ) (cp n end : ℕ) (l : length r ≡ 12) (e : h ≡ laid r 0 (header_of cp n)) (p : v ≡ h) (k : end ≡ 4 + length_bytes n) where
  held : v ≡ splice r 0 (header_of cp n)
  held = p ∙ e ∙ laid_fits r 0 (header_of cp n) (omega (arith, length_header cp n, few_bytes n))

  held_within : end ≤ length v
  held_within =
      let z : length (header_of cp n) ≡ 4 + length_bytes n = length_header cp n in
      omega (arith, few_bytes n, ap length held, splice_length r 0 (header_of cp n) (omega (arith, few_bytes n)))

  held_part : part v 0 end ≡ header_of cp n
  held_part =
      let z : end ≡ 0 + length (header_of cp n) = omega (arith, length_header cp n) in
      ap₂ (λ (s : List ℕ) (m : ℕ). part s 0 m) held z ∙ splice_part r 0 (header_of cp n) (omega arith)

pub part-requires-clause-there : goal.part-requires-clause-there
part-requires-clause-there c =
    let a = c.args in
    held_within _ _ _ a.code_point a.n _ refl c.lay_header.ensures c.plain.ensures c.serialized_header_len-end.ensures

pub part-requires-clause-inside : goal.part-requires-clause-inside
part-requires-clause-inside c =
    omega (arith, c.serialized_header_len-end.ensures, length_header c.args.code_point c.args.n, c.requires)

pub returns : goal.returns
returns c =
    let a = c.args in
    let e = held_part _ _ _ a.code_point a.n _ refl c.lay_header.ensures c.plain.ensures c.serialized_header_len-end.ensures in
    rw e at c.part.ensures
