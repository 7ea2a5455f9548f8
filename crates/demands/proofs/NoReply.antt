-- Document 02, W-210: requests that want no reply, computed. Which types an object, or one of its own type, is absorbed behind; both
-- sides of the types' edges; a frame of type 5 at real sizes. And what a spoilt head is, as a statement about any reading of heads.
use Rattle.std.specs.Prelude.{Ok, Err}
use Prim.Native.Nat.{ℕ}
use mathlib.Core.Path.{◌≡◌, refl}
use mathlib.Core.Bool.{true, false}
use mathlib.Core.List.{List, [], ◌∷◌, ◌++◌, map}
use lib.ListN.{replicate}
use Rattle.wire.specs.Bytes.{splice, laid}
use Rattle.answer.specs.declared.Refusal.TheVariants.{InvalidDssType}
use Rattle.dss_head.specs.Heads.{type_at}
use Rattle.dss_head.specs.declared.DssType.{DssType}
use Rattle.dss_head.specs.declared.DssType.TheVariants.{Request, Reply, Object, Communication, NoReply}
use Rattle.dss_frame.specs.Segments.{payload_of, end_of, frame_walk, continuations, walk_fuel}
use Rattle.dss_frame.specs.Reading.{follows, read_at, absorb, absorb_fuel, look}
use Rattle.dss_frame.specs.Salvage.{salvaged, salvage_fuel}
use Rattle.dss_frame.specs.Written.{Sent, written, chunks, chunks_fuel, frame_size}
use Rattle.dss_salvage.specs.SalvageEntries.{salvaged_row, salvaged_bytes}
use Rattle.demands.proofs.Table.{reads, salvages, frame, refused, handed, of_refused, of_read, of_entry, blank, came_of, one, plain_case}
use Rattle.demands.proofs.Edges.{edge_of, answer}

-- ---- "the type equals the first frame's, or is object after a first reply or request"; "an object may follow a first type 5 as it
-- follows a request": each type's row, by what would follow it

abbrev types : List DssType
types = Request ∷ Reply ∷ Object ∷ Communication ∷ NoReply ∷ []

pub pairs : map (λ (t : DssType). map (follows t) types) types
    ≡ (true ∷ false ∷ true ∷ false ∷ false ∷ [])
    ∷ (false ∷ true ∷ true ∷ false ∷ false ∷ [])
    ∷ (false ∷ false ∷ true ∷ false ∷ false ∷ [])
    ∷ (false ∷ false ∷ false ∷ true ∷ false ∷ [])
    ∷ (false ∷ false ∷ true ∷ false ∷ true ∷ [])
    ∷ []
pairs = refl

-- ---- "3 narrows accordingly": 1 and 5 are types, 0, 6 and 15 aren't; the high four bits say nothing

pub edges : (type_at 0x10 0 ≡ Err (record { why = InvalidDssType 0; place = 0 }))
    × (type_at 0x01 0 ≡ Ok Request)
    × (type_at 0xF5 0 ≡ Ok NoReply)
    × (type_at 0xF6 0 ≡ Err (record { why = InvalidDssType 6; place = 0 }))
    × (type_at 0x0F 0 ≡ Err (record { why = InvalidDssType 15; place = 0 }))
edges = (refl, refl, refl, refl, refl)

-- ---- frames, as `next_frame` answers

-- a frame of a head alone, by its format byte; one with a byte of payload
abbrev head : ℕ → List ℕ
head format = 0x00 ∷ 0x06 ∷ 0xD0 ∷ format ∷ 0x00 ∷ 0x01 ∷ []

abbrev carries : ℕ → ℕ → List ℕ
carries format b = 0x00 ∷ 0x07 ∷ 0xD0 ∷ format ∷ 0x00 ∷ 0x01 ∷ b ∷ []

-- alone, and with a byte missing: what P4 and P7 were
pub alone : (came_of (reads (head 0x05)) ≡ one (frame (plain_case NoReply 1 6 [] 1)) 6)
    × (came_of (reads (0x00 ∷ 0x07 ∷ 0xD0 ∷ 0x05 ∷ 0x00 ∷ 0x01 ∷ [])) ≡ one (refused 1 [] 0) 0)
unfolding came_of handed of_refused of_read blank splice laid read_at absorb absorb_fuel look payload_of end_of frame_walk continuations walk_fuel
alone = (refl, refl)

-- an object behind it is absorbed, as P10's behind a reply; one that starts an object of its own isn't, as P11's
pub with_object : (came_of (reads (head 0x05 ++ (0x00 ∷ 0x0A ∷ 0xD0 ∷ 0x13 ∷ 0x00 ∷ 0x01 ∷ 0x00 ∷ 0x04 ∷ 0x24 ∷ 0x14 ∷ []))) ≡ one (frame (plain_case NoReply 1 6 (0x00 ∷ 0x04 ∷ 0x24 ∷ 0x14 ∷ []) 2)) 16)
    × (came_of (reads (head 0x05 ++ (0x00 ∷ 0x0B ∷ 0xD0 ∷ 0x13 ∷ 0x00 ∷ 0x01 ∷ 0x00 ∷ 0x05 ∷ 0x24 ∷ 0x14 ∷ 0xC1 ∷ []))) ≡ one (frame (plain_case NoReply 1 6 [] 1)) 6)
unfolding came_of handed of_refused of_read blank splice laid read_at absorb absorb_fuel look payload_of end_of frame_walk continuations walk_fuel
with_object = (refl, refl)

-- one of its own type is absorbed, as P9's; a request isn't, nor is it absorbed behind an object or a request
pub with_others : (came_of (reads (carries 0x05 0xAA ++ carries 0x55 0xBB))
    ≡ one (frame (record { type = NoReply; chained = true; continues = false; same = false; correlation = 1; length = 7; payload = 0xAA ∷ 0xBB ∷ []; segments = 2 })) 14)
    × (came_of (reads (carries 0x05 0xAA ++ carries 0x11 0xBB)) ≡ one (frame (plain_case NoReply 1 7 (0xAA ∷ []) 1)) 7)
    × (came_of (reads (carries 0x03 0xAA ++ carries 0x15 0xBB)) ≡ one (frame (plain_case Object 1 7 (0xAA ∷ []) 1)) 7)
    × (came_of (reads (carries 0x01 0xAA ++ carries 0x15 0xBB)) ≡ one (frame (plain_case Request 1 7 (0xAA ∷ []) 1)) 7)
unfolding came_of handed of_refused of_read blank splice laid read_at absorb absorb_fuel look payload_of end_of frame_walk continuations walk_fuel
with_others = (refl, refl, refl, refl)

-- ---- salvage: two that want no reply, and between them one whose type is spoilt to 6

pub salvaging : came_of (salvages (carries 0x05 0xAA ++ (carries 0x06 0xBB ++ carries 0x05 0xCC)))
    ≡ record { out = frame (plain_case NoReply 1 7 (0xAA ∷ []) 1) ∷ refused 3 (6 ∷ []) 7 ∷ frame (plain_case NoReply 1 7 (0xCC ∷ []) 1) ∷ []; end = 21 }
unfolding came_of handed of_refused of_entry blank splice laid read_at absorb absorb_fuel look payload_of end_of frame_walk continuations walk_fuel salvaged salvage_fuel salvaged_row salvaged_bytes
salvaging = refl

-- ---- at real sizes: "32,762: 32,770 bytes, continuation 0003"; "65,526: 65,534 bytes, 7FFF, not whole alone", and whole in salvage

unfoldable pub full : ℕ → Sent
full n = record { type = NoReply; chained = false; same = false; correlation = 1; payload = replicate n 0xC1 }

pub edge_32762 : edge_of (written (full 32762)) 32762
    ≡ record { size = 32770; room = 32770; first = 0xFFFF; second = 0x0003; third = 0; read = 0 ∷ 32762 ∷ 32770 ∷ []; salvage = 0 ∷ 32762 ∷ 32770 ∷ [] }
unfolding edge_of answer full frame_size written chunks chunks_fuel read_at absorb absorb_fuel look payload_of end_of frame_walk continuations walk_fuel
edge_32762 = refl

pub edge_65526 : edge_of (written (full 65526)) 65526
    ≡ record { size = 65534; room = 65534; first = 0xFFFF; second = 0x7FFF; third = 0; read = 1 ∷ []; salvage = 0 ∷ 65526 ∷ 65534 ∷ [] }
unfolding edge_of answer full frame_size written chunks chunks_fuel read_at absorb absorb_fuel look payload_of end_of frame_walk continuations walk_fuel
edge_65526 = refl
