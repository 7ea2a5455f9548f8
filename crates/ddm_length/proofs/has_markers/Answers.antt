-- `ddm_length::has_markers` meets its contract: by the length, then by the bytes at the first place for a marker.
use mathlib.Core.Path.{ap, sym, ◌∙◌}
use borrow.Author.Tests.{lt-ltb}
use Rattle.wire.specs.Bytes.{marker}
use Rattle.ddm_length.proofs.MarkerPieces.{be16_drop}
use Rattle.ddm_length.proofs.has_markers.Goals as goal

pub returns-then-data : goal.returns-then-data
returns-then-data c =
    simp (lt-ltb _ _ c.if-data.true)
    (c.is_marker.ensures ∙ ap marker (c.u16_at.ensures ∙ sym (be16_drop c.args.«data».now 32757)))
