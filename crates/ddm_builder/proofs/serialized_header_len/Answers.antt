-- `ddm_builder::serialized_header_len` meets its contract: there are eight length bytes at most.
use native.Mathlib.Omega.{arith}
use Rattle.ddm_builder.proofs.BuiltForms.{few_bytes}
use Rattle.ddm_builder.proofs.serialized_header_len.Goals as goal

pub overflow_add-result : goal.overflow_add-result
overflow_add-result c = omega (arith, few_bytes c.args.n)
