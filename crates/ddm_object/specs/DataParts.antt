-- Which part of the run or of the work area an object's data are.
use Rattle.std.specs.Prelude.{ℕ, ◌+◌, ◌-◌, ◌≡◌, List, [], leb, length, take, drop}
use Rattle.std.specs.Borrow.{Bor}
use Rattle.wire.specs.Bytes.{pick}
use Rattle.wire.specs.Parts.{start_at}
use Rattle.ddm_object.specs.Objects.{Parsed, object, refused, parsed}
use Rattle.ddm_object.specs.ObjectCalls.{lies_in_work}

-- its bytes: of the work area so many of the first as the data are; where it has fewer, which `object_at` answers with 9, none
abbrev pub data_part : List ℕ → ℕ → List ℕ → Parsed → List ℕ
data_part s place work (object o) =
    pick (lies_in_work (drop place s)) (pick (leb (length o.content) (length work)) (take (length o.content) work) []) o.content
data_part s place work (refused r) = []

-- where it starts
abbrev pub data_start : Bor (List ℕ) → ℕ → Bor (List ℕ) → Parsed → ℕ × ℕ
data_start run place work (object o) =
    pick (lies_in_work (drop place run.now))
    (pick (leb (length o.content) (length work.now)) (start_at work 0) (start_at run place))
    (start_at run (place + (o.consumed - length o.content)))
data_start run place work (refused r) = start_at run (pick (leb place (length run.now)) place (length run.now))

pub record DataAt (run : Bor (List ℕ)) (place : ℕ) (work r : Bor (List ℕ)) : Type 0 where
  pub bytes_are : r.now ≡ data_part run.now place work.now (parsed (drop place run.now) place)
  pub starts : r.ref_ptr ≡ data_start run place work (parsed (drop place run.now) place)
