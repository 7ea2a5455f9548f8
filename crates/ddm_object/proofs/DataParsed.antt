-- The data of an object that is parsed with a work area of some size.
use Prim.Native.Nat.{ℕ}
use mathlib.Core.List.{List, []}
use lib.Dec.{leb}
use lib.ListN.{length}
use Rattle.wire.specs.Bytes.{pick}
use Rattle.ddm_object.specs.Objects.{Parsed, object, refused}
use Rattle.ddm_object.specs.ObjectCalls.{work_of}

-- an object's data where it was given, and none where it was refused: what `object_at`, and `object_data` behind it, come to
abbrev pub data_parsed : List ℕ → ℕ → ℕ → Parsed → List ℕ
data_parsed s place size (object o) = pick (leb (length (work_of s place o)) size) o.content []
data_parsed s place size (refused r) = []
