-- A frame under a head, as the writer's inner functions lay it down.
use Rattle.std.specs.Prelude.{ℕ, ◌+◌, List, ◌++◌, leb, length, take, drop}
use Rattle.wire.specs.Bytes.{pick}
use Rattle.dss_head.specs.Heads.{head_bytes}
use Rattle.dss_head.specs.declared.DssHeader.{DssHeader}
use Rattle.dss_frame.specs.Written.{chunks}

-- the raw length in a frame's head, of its payload's length
abbrev pub raw_length_of : ℕ → ℕ
raw_length_of n = pick (leb n 32761) (n + 6) 0xFFFF

-- the frame that a head with its raw length and a payload make
abbrev pub laid_under : DssHeader → List ℕ → List ℕ
laid_under h payload =
    pick (leb (length payload) 32761)
    (head_bytes h ++ payload)
    (head_bytes h ++ (take 32761 payload ++ chunks (drop 32761 payload)))
