-- Whose rules hold, and what they say of a continuation's raw length.
use Rattle.std.specs.Prelude.{ℕ, eqb}
use Rattle.wire.specs.Bytes.{pick}
use Rattle.dss_head.specs.Heads.{chunk_of}
use Rattle.dss_head.specs.declared.Chunk.{Chunk}
use Rattle.dss_head.specs.declared.Chunk.TheVariants.{Last}
use Rattle.dss_frame.specs.declared.Rules.{Rules}
use Rattle.dss_frame.specs.declared.Rules.TheVariants.{Reader, Salvage}

-- "The decision by raw continuation length" is the reader's. W-205: "In salvage 0x7FFF becomes a last continuation"
abbrev pub chunk_under : Rules → ℕ → Chunk
chunk_under Reader raw = chunk_of raw
chunk_under Salvage raw = pick (eqb raw 0x7FFF) Last (chunk_of raw)
