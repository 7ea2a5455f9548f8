-- The walk over all objects or parameters, as its loop ends: what it met, and how much of the work area that needs.
use Rattle.std.specs.Prelude.{ℕ, ◌≤◌, ◌≡◌, List, [], ◌∷◌, length, drop}
use Rattle.wire.specs.Bytes.{pick}
use Rattle.ddm_object.specs.Objects.{Object, AllParsed, and_more, all_objects, parameters}
use Rattle.ddm_object.specs.inner.Walked.{Refuses, all_from}
use Rattle.ddm_object.specs.declared.DdmObject.{DdmObject}
use Rattle.ddm_rows.specs.ListCalls.{works_of}
use Rattle.ddm_rows.specs.declared.Extent.{Extent}

-- all of them, in front of what follows
abbrev pub and_all : List Object → AllParsed → AllParsed
and_all [] x = x
and_all (o ∷ os) x = and_more o (and_all os x)

-- how much of the work area a record needs
abbrev pub work_len : DdmObject → ℕ
work_len o = pick o.in_work o.data_len 0

pub record WalkedParams (s : List ℕ) (w : Extent) : Type 0 where
  pub count_is : w.found.count ≡ length (parameters s)
  pub work_is : w.found.work ≡ length (works_of s 0 (parameters s))
  pub within : w.end ≤ length s
  pub stops : Refuses (drop w.end s)
  pub alls : all_objects s ≡ and_all (parameters s) (all_from (drop w.end s) w.end)
