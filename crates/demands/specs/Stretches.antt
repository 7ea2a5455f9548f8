-- W-201, "Where each frame stood", as statements about any records, in Rattle and in words: "In a salvage list these stretches follow
-- each other without gap or overlap from 0 to the tail's place", a reader's list from its position on; and the bytes of each payload come
-- from inside its stretch.
use Rattle.std.specs.Prelude.{ℕ, ◌+◌, ◌≤◌, ◌≡◌, List, length, get_or, take}
use Rattle.wire.specs.Bytes.{part}
use Rattle.dss_frame.specs.Following.{Follow, ComesFrom, Each}
use Rattle.dss_frame.specs.declared.DssFrame.{DssFrame}
use Rattle.dss_salvage.specs.SalvageEntries.{starts_in, ends_in}
use Rattle.dss_salvage.specs.declared.Entry.{Entry}
use Rattle.dss_salvage.specs.declared.Entry.TheVariants.{Frame, Refused as Refuses}
use Rattle.dss_salvage.specs.declared.SalvageEntry.{SalvageEntry}

-- records of a run's frames, from a place to another, by where each says that it stood and by what is so of its payload
pub record Stood {A : Type 0} (from to : A → ℕ) (Inside : A → Type 0) (s : List ℕ) (p end : ℕ) (row : List A) : Type 0 where
  pub follow : Follow from to p row end
  pub inside : end ≤ length s
  pub payloads : Each Inside row

-- ---- in Rattle

-- a frame's payload, where its record says that it lies in the room, comes from where the frame stood
abbrev pub FrameInside : List ℕ → List ℕ → DssFrame → Type 0
FrameInside s room d = ComesFrom s d.at d.end (part room d.payload_at (d.payload_at + d.payload_len))

abbrev pub FramesStood : List ℕ → List ℕ → ℕ → ℕ → List DssFrame → Type 0
FramesStood s room p end row = Stood (λ (d : DssFrame). d.at) (λ (d : DssFrame). d.end) (FrameInside s room) s p end row

-- a refusal has no payload
abbrev pub EntryInside : List ℕ → List ℕ → Entry → Type 0
EntryInside s room (Frame d) = FrameInside s room d
EntryInside s room (Refuses r p e) = Unit {0}

abbrev pub EntriesStood : List ℕ → List ℕ → ℕ → ℕ → List SalvageEntry → Type 0
EntriesStood s room p end row =
    Stood (λ (e : SalvageEntry). starts_in e.entry) (λ (e : SalvageEntry). ends_in e.entry) (λ (e : SalvageEntry). EntryInside s room e.entry) s p end row

-- ---- in words

-- a record of a row: number 0 is a frame's
abbrev pub WordsInside : List ℕ → List ℕ → List ℕ → Type 0
WordsInside s room w = get_or w 0 0 ≡ 0 → ComesFrom s (get_or w 8 0) (get_or w 9 0) (part room (get_or w 1 0) (get_or w 1 0 + get_or w 5 0))

abbrev pub WordsStood : List ℕ → List ℕ → ℕ → ℕ → List (List ℕ) → Type 0
WordsStood s room p end records = Stood (λ (w : List ℕ). get_or w 8 0) (λ (w : List ℕ). get_or w 9 0) (WordsInside s room) s p end records

-- the answer of `next_frame`: its last word is the frame's first byte, its second the byte after its last
pub record AnswerStood (s : List ℕ) (p : ℕ) (room answer : List ℕ) : Type 0 where
  pub first : get_or answer 7 0 ≡ p
  pub inside : get_or answer 1 0 ≤ length s
  pub payload : ComesFrom s (get_or answer 7 0) (get_or answer 1 0) (take (get_or answer 5 0) room)
