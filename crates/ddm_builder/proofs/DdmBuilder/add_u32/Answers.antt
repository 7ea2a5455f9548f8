-- `ddm_builder::DdmBuilder::add_u32` meets its contract: std's bytes of a number of four are its last four.
use Rattle.ddm_builder.specs.Builder.{parameter32}
use Rattle.ddm_builder.proofs.NumberBytes.{four_last}
use Rattle.ddm_builder.proofs.DdmBuilder.add_u32.Goals as goal

pub returns : goal.returns
unfolding parameter32
returns c = rw (← four_last c.args.val, ← c.to_be_bytes-four_bytes.ensures) c.add_code_point.ensures
