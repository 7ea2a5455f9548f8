-- What the writer lays down: document 01, module 2.
use Rattle.std.specs.Prelude.{ℕ, zero, suc, ◌+◌, ◌*◌, ◌-◌, ◌/◌, Bool, false, List, [], ◌++◌, leb, length, take, drop}
use Rattle.wire.specs.Bytes.{pick, two}
use Rattle.dss_head.specs.Heads.{head_bytes}
use Rattle.dss_head.specs.declared.DssType.{DssType}
use Rattle.dss_head.specs.declared.DssHeader.{DssHeader}

-- a frame to be written: "Continue on error is never set"
pub record Sent : Type 0 where
  pub type : DssType
  pub chained : Bool
  pub same : Bool
  pub correlation : ℕ
  pub payload : List ℕ

abbrev pub head_of : Sent → ℕ → DssHeader
head_of f n =
    record { length = n; dss_type = f.type; flags = record { chained = f.chained; continue_on_error = false; same_correlation = f.same }; correlation_id = f.correlation }

-- "continuations of at most 32,765 bytes, each behind a two-byte length: 0xFFFF when more than 32,765 bytes remain before it, else bytes + 2"
unfoldable pub chunks_fuel : ℕ → List ℕ → List ℕ
chunks_fuel zero bytes = []
chunks_fuel (suc fuel) bytes =
    pick (leb (length bytes) 32765) (two (length bytes + 2) ++ bytes)
    (two 0xFFFF ++ (take 32765 bytes ++ chunks_fuel fuel (drop 32765 bytes)))

unfoldable pub chunks : List ℕ → List ℕ
unfolding chunks_fuel
chunks bytes = chunks_fuel (suc (length bytes / 32765)) bytes

-- "Payload up to 32,761: one segment, length payload + 6. Above: length 0xFFFF and 32,761 bytes, then continuations"
unfoldable pub written : Sent → List ℕ
unfolding chunks
written f =
    pick (leb (length f.payload) 32761)
    (head_bytes (head_of f (length f.payload + 6)) ++ f.payload)
    (head_bytes (head_of f 0xFFFF) ++ (take 32761 f.payload ++ chunks (drop 32761 f.payload)))

-- W-206, the room that a frame needs, of its payload's length: "6 plus the payload, plus 2 for each 32,765 bytes or part of them
-- above 32,761"
unfoldable pub frame_size : ℕ → ℕ
frame_size n = 6 + n + 2 * ((n - 32761 + 32764) / 32765)
