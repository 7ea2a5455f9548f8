-- Demand 2, "Each ported call, given room, equals the Rust on every input": the Rust has the types 1 to 4. W-210: "Demand 2's
-- equality leaves out runs with type 5, since the Rust refuses it". What it leaves out, as statements about any reading: the
-- four-type reading is the same, unless it refuses a type 5.
use Rattle.std.specs.Prelude.{ℕ, zero, suc, ◌+◌, ◌-◌, ◌%◌, ◌≡◌, Bool, ◌⊎◌, List, [], ltb, leb, eqb, length, get_or, Result, Ok, Err}
use Rattle.wire.specs.Bytes.{pick, be16}
use Rattle.answer.specs.Rooms.{out_of_bounds}
use Rattle.answer.specs.declared.Refusal.TheVariants.{InvalidMagic, InvalidDssType, BufferTooShort, LengthTooShort}
use Rattle.answer.specs.declared.Refused.{Refused}
use Rattle.dss_head.specs.Heads.{head_with}
use Rattle.dss_head.specs.declared.DssType.{DssType}
use Rattle.dss_head.specs.declared.DssType.TheVariants.{Request, Reply, Object, Communication}
use Rattle.dss_head.specs.declared.DssHeader.{DssHeader}
use Rattle.dss_frame.specs.declared.Rules.TheVariants.{Reader as reader}
use Rattle.dss_frame.specs.Segments.{Segment, payload_of, end_of, frame_walk}
use Rattle.dss_frame.specs.Reading.{Read, frame, refused, Look, finished, look_at, behind_frame, starts_extended, if_whole}
use Rattle.dss_frame.specs.Frames.{AllRead, frames, refused_all, and_on}
use Rattle.demands.specs.Demands.{Reader}
use Rattle.demands.specs.AllFrames.{AllReader}

-- ---- heads of four types

-- "low four bits the type (1 request, 2 reply, 3 object, 4 communication)"; "3: type not 1 to 4, the low four bits"
abbrev pub four_types : ℕ → ℕ → Result DssType Refused
four_types format place =
    pick (eqb (format % 16) 1) (Ok Request)
    (pick (eqb (format % 16) 2) (Ok Reply)
    (pick (eqb (format % 16) 3) (Ok Object)
    (pick (eqb (format % 16) 4) (Ok Communication)
    (Err (record { why = InvalidDssType (format % 16); place = place })))))

abbrev pub Heads : Type 0
Heads = List ℕ → ℕ → Result DssHeader Refused

-- "Parsing a head checks 4 (six bytes), 2, 3"
abbrev pub four_heads : Heads
four_heads s at =
    pick (ltb (length s - at) 6) (Err (record { why = BufferTooShort 6 (length s - at); place = at }))
    (pick (eqb (get_or s (at + 2) 0) 0xD0) (head_with s at (four_types (get_or s (at + 3) 0) at))
    (Err (record { why = InvalidMagic (get_or s (at + 2) 0); place = at })))

-- ---- document 01's "Reading" over any reading of heads: over `head_at` it is the reader's

unfoldable pub look_by : Heads → List ℕ → DssType → Bool → ℕ → Look
look_by heads s t extended q = pick (ltb (length s - q) 6) finished (look_at reader s t extended q (heads s q))

unfoldable pub absorb_by : Heads → ℕ → List ℕ → ℕ → DssHeader → List Segment → Read
unfolding payload_of end_of look_by
absorb_by heads zero s p h gs = frame (record { head = h; segments = gs })
absorb_by heads (suc fuel) s p h gs =
    behind_frame h gs (look_by heads s h.dss_type (starts_extended (payload_of s gs)) (end_of p gs)) (λ h' gs'. absorb_by heads fuel s p h' gs')

abbrev pub read_head_by : Heads → List ℕ → ℕ → List Segment → Result DssHeader Refused → Read
read_head_by heads s p gs (Err r) = refused r
read_head_by heads s p gs (Ok h) =
    pick (ltb (be16 s p) 6) (refused (record { why = LengthTooShort (be16 s p); place = p }))
    (pick (eqb (be16 s p) 0xFFFF) (frame (record { head = h; segments = gs })) (absorb_by heads (length s) s p h gs))

unfoldable pub read_by : Heads → Reader
unfolding absorb_by frame_walk
read_by heads s p =
    pick (leb p (length s)) (if_whole p refused (λ gs. read_head_by heads s p gs (heads s p)) (frame_walk reader s p))
    (refused (out_of_bounds p (length s)))

unfoldable pub all_fuel_by : Heads → ℕ → List ℕ → ℕ → AllRead
unfolding end_of read_by
all_fuel_by heads zero s p = frames [] p
all_fuel_by heads (suc fuel) s p = and_on p (read_by heads s p) (λ q. all_fuel_by heads fuel s q)

unfoldable pub all_by : Heads → AllReader
unfolding all_fuel_by
all_by heads s p = all_fuel_by heads (suc (length s)) s p

-- ---- the statements

-- a type is read as with four types, where the low four bits aren't 5
abbrev pub TypesAsFour : (ℕ → ℕ → Result DssType Refused) → Type 0
TypesAsFour types = (format place : ℕ) → (format % 16 ≡ 5 → ⊥) → types format place ≡ four_types format place

-- a refusal of a type 5 that stands in the run
abbrev pub type_five : ℕ → Refused
type_five q = record { why = InvalidDssType 5; place = q }

pub record FiveAt (s : List ℕ) (q : ℕ) : Type 0 where
  pub magic : get_or s (q + 2) 0 ≡ 0xD0
  pub type : get_or s (q + 3) 0 % 16 ≡ 5

-- what a four-type reading gives is that refusal
abbrev pub FiveRefused : {A : Type 0} → List ℕ → (Refused → A) → A → Type 0
FiveRefused s refuses four = record { q : ℕ; five : FiveAt s q; is : four ≡ refuses (type_five q) }

-- the same as the four-type reading, unless it gives that
abbrev pub SameOrFive : {A : Type 0} → List ℕ → (Refused → A) → A → A → Type 0
SameOrFive s refuses ours four = (ours ≡ four) ⊎ FiveRefused s refuses four

abbrev pub HeadsAsFour : Heads → Type 0
HeadsAsFour heads = (s : List ℕ) (p : ℕ) → SameOrFive s Err (heads s p) (four_heads s p)

abbrev pub ReadsAsFour : Reader → Type 0
ReadsAsFour reads = (s : List ℕ) (p : ℕ) → SameOrFive s refused (reads s p) (read_by four_heads s p)

abbrev pub AllAsFour : AllReader → Type 0
AllAsFour reads = (s : List ℕ) (p : ℕ) → SameOrFive s refused_all (reads s p) (all_by four_heads s p)
