-- What reading comes to of objects and parameters that were built, or that have the volume's layout: the words of the theorems.
use Rattle.std.specs.Prelude.{ℕ, ◌+◌, ◌≡◌, false, List, [], ◌∷◌, ◌++◌, length, take, drop, Result, Ok}
use Rattle.wire.specs.Bytes.{splice}
use Rattle.layouts.specs.DdmLayout.{Ddm}
use Rattle.ddm_builder.specs.Built.{length_bytes, built}
use Rattle.ddm_builder.specs.Builder.{fresh_builder, Adds}
use Rattle.ddm_builder.specs.declared.DdmBuilder.{DdmBuilder}
use Rattle.ddm_object.specs.declared.DdmObject.{DdmObject}
use Rattle.ddm_rows.specs.declared.ObjectsFound.{ObjectsFound}
use Rattle.answer.specs.declared.Refused.{Refused}

-- ---- what is laid down

-- A call that lays bytes down answers 0 and how many; they are the room's first, and behind them it is as it was.
pub record LaidFirst (bytes room : List ℕ) (r : Result ℕ Refused) (after : List ℕ) : Type 0 where
  pub is : r ≡ Ok (length bytes)
  pub first : take (length bytes) after ≡ bytes
  pub behind : drop (length bytes) after ≡ drop (length bytes) room
  pub whole : after ≡ bytes ++ drop (length bytes) room

-- An object is laid at a room's start: its bytes are the room's first, they have DRDA volume 3's layout, and behind them the room is
-- as it was.
pub record InRoom (cp : ℕ) (d room after : List ℕ) : Type 0 where
  pub first : take (length (built cp d)) after ≡ built cp d
  pub layout : Ddm cp d (take (length (built cp d)) after)
  pub behind : drop (length (built cp d)) after ≡ drop (length (built cp d)) room

-- ---- what is read

-- the record of an object at a place with a header of so many bytes and so much data, which is the object's last bytes
abbrev pub plain : ℕ → ℕ → ℕ → ℕ → DdmObject
plain place cp header n =
    record { code_point = cp; in_work = false; data_at = place + header; data_len = n; consumed = header + n }

-- the data of a record that is in the run
abbrev pub data_of : List ℕ → DdmObject → List ℕ
data_of s o = take o.data_len (drop o.data_at s)

-- the header that the builder makes: four bytes and the length bytes
abbrev pub built_header : List ℕ → ℕ
built_header d = 4 + length_bytes (length d)

-- A call answers the object with that code point and those data, at that place: 0, the record, the data where it says, and the
-- work area as it was.
pub record ReadsAs (cp : ℕ) (d s : List ℕ) (place header : ℕ) (work : List ℕ) (r : Result DdmObject Refused) (after : List ℕ) : Type 0 where
  pub is : r ≡ Ok (plain place cp header (length d))
  pub data_is : data_of s (plain place cp header (length d)) ≡ d
  pub work_is : after ≡ work

-- ---- lists of code points with their data

-- the records of objects that were built one behind the other from a place on
unfoldable pub records_built : ℕ → List (ℕ × List ℕ) → List DdmObject
records_built place [] = []
records_built place (x ∷ l) =
    plain place x.0 (built_header x.1) (length x.1) ∷ records_built (place + length (built x.0 x.1)) l

-- as many records as pairs, in order, each with its pair's code point and data
unfoldable pub AllSay : List ℕ → List (ℕ × List ℕ) → List DdmObject → Type 0
AllSay s [] [] = Unit {0}
AllSay s [] (o ∷ os) = ⊥
AllSay s (x ∷ l) [] = ⊥
AllSay s (x ∷ l) (o ∷ os) = (o.code_point ≡ x.0) × (data_of s o ≡ x.1) × AllSay s l os

-- A call answers all of them: 0, how many, no byte of the work area; the records at the row's start, and all else as it was.
pub record ListsAs (l : List (ℕ × List ℕ)) (s work : List ℕ) (row : List DdmObject) (r : Result ObjectsFound Refused) (workAfter : List ℕ) (rowAfter : List DdmObject) : Type 0 where
  pub is : r ≡ Ok (record { count = length l; work = 0 })
  pub row_is : rowAfter ≡ splice row 0 (records_built 0 l)
  pub say : AllSay s l (records_built 0 l)
  pub work_is : workAfter ≡ work

-- none of them has that code point
unfoldable pub Lacks : ℕ → List (ℕ × List ℕ) → Type 0
Lacks cp [] = Unit {0}
Lacks cp (x ∷ l) = (x.0 ≡ cp → ⊥) × Lacks cp l

-- the first of them that has it
pub record First (cp : ℕ) (l : List (ℕ × List ℕ)) : Type 0 where
  pub before : List (ℕ × List ℕ)
  pub content : List ℕ
  pub rest : List (ℕ × List ℕ)
  pub is : l ≡ before ++ ((cp, content) ∷ rest)
  pub lacks : Lacks cp before

-- ---- an object built parameter by parameter

-- One parameter added after the other, from a fresh builder and a room on, each by the contract of a call that adds, with answer 0:
-- what was added, the builder's state and the room.
pub data Added (cp : ℕ) (room : List ℕ) : List (ℕ × List ℕ) → DdmBuilder → List ℕ → Type 0 where
  none : Added cp room [] (fresh_builder cp) room
  more : {l : List (ℕ × List ℕ)} {b : DdmBuilder} {now : List ℕ} → Added cp room l b now → (c : ℕ) (d : List ℕ) (next : DdmBuilder) (after : List ℕ)
      → Adds b (built c d) now (Ok next) after → Added cp room (l ++ ((c, d) ∷ [])) next after
