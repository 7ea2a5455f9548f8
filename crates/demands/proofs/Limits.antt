-- What can't be had, computed: the cases that the documents name where they say what the reader and the salvage reading don't do.
use Prim.Native.Nat.{ℕ}
use mathlib.Core.Path.{◌≡◌, refl}
use mathlib.Core.List.{List, [], ◌∷◌, ◌++◌, map}
use lib.ListN.{take, drop}
use Rattle.wire.specs.Bytes.{splice, laid}
use Rattle.dss_head.specs.declared.DssType.TheVariants.{Reply}
use Rattle.dss_frame.specs.Segments.{payload_of, end_of, frame_walk, continuations, walk_fuel}
use Rattle.dss_frame.specs.Reading.{read_at, absorb, absorb_fuel, look}
use Rattle.dss_frame.specs.Salvage.{salvaged, salvage_fuel}
use Rattle.dss_frame.specs.Written.{written, chunks, chunks_fuel}
use Rattle.dss_frame.specs.declared.Rules.TheVariants.{Reader}
use Rattle.dss_salvage.specs.SalvageEntries.{salvaged_row, salvaged_bytes}
use Rattle.demands.proofs.Table.{Asked, reads, salvages, frame, refused, Came, one, plain_case, p2, handed, of_refused, of_read, of_entry, blank, came_of}
use Rattle.demands.proofs.Edges.{full, answer}

-- The reader takes a frame behind a full last chunk for one chunk more: a written payload of 65,526 bytes with `0006D0020007` behind it
-- is read as one frame of 65,530 bytes. (Salvage hands out both: W-205, `Handed-out` in `demands/proofs/AsReadExamples`.)
pub swallowed : answer (written (full 65526) ++ p2) (read_at Reader (written (full 65526) ++ p2) 0) ≡ 0 ∷ 65530 ∷ 65540 ∷ []
unfolding answer full written chunks chunks_fuel read_at absorb absorb_fuel look payload_of end_of frame_walk continuations walk_fuel
swallowed = refl

-- Two stray bytes between the segments of one frame are taken for the next segment's length. 0 and 1 are never whole, which is 16; with
-- another number the frame ends where that leads, and what stands there is content: here two bytes too many, `0003`, which was a length.
unfoldable pub between : ℕ → ℕ → List ℕ
between a b = take 32767 (written (full 32762)) ++ (a ∷ b ∷ drop 32767 (written (full 32762)))

pub between_segments : (answer (between 0 0) (read_at Reader (between 0 0) 0) ≡ 16 ∷ []) × (answer (between 0 5) (read_at Reader (between 0 5) 0) ≡ 0 ∷ 32764 ∷ 32772 ∷ [])
unfolding between answer full written chunks chunks_fuel read_at absorb absorb_fuel look payload_of end_of frame_walk continuations walk_fuel
between_segments = (refl, refl)

-- a reply with another correlation, and one whose magic is spoilt
abbrev pub eighth : List ℕ
eighth = 0x00 ∷ 0x06 ∷ 0xD0 ∷ 0x02 ∷ 0x00 ∷ 0x08 ∷ []

abbrev pub ninth : List ℕ
ninth = 0x00 ∷ 0x06 ∷ 0xD1 ∷ 0x02 ∷ 0x00 ∷ 0x09 ∷ []

-- a good reply, two stray zero bytes, another good reply
abbrev pub stray : List ℕ
stray = p2 ++ (0 ∷ 0 ∷ eighth)

-- a good reply, one with its magic spoilt, another good one
abbrev pub damaged : List ℕ
damaged = p2 ++ (ninth ++ eighth)

pub record Limit : Type 0 where
  pub asks : Asked
  pub gives : Came

abbrev pub limits : List Limit
limits =
    -- Two stray zero bytes: the reader is refused at them, and salvage ends there, so the second reply is lost.
    record { asks = reads stray; gives = one (refused 2 (0 ∷ []) 6) 6 }
    ∷ record { asks = salvages stray; gives = record { out = frame (plain_case Reply 7 6 [] 1) ∷ refused 2 (0 ∷ []) 6 ∷ []; end = 6 } }
    -- A refused call that started at byte 0 is refused at 6. Salvaged from 0, both good replies come out; from 6, the first is lost.
    ∷ record { asks = reads damaged; gives = one (refused 2 (0xD1 ∷ []) 6) 6 }
    ∷ record {
      asks = salvages damaged;
      gives = record { out = frame (plain_case Reply 7 6 [] 1) ∷ refused 2 (0xD1 ∷ []) 6 ∷ frame (plain_case Reply 8 6 [] 1) ∷ []; end = 18 };
    }
    ∷ record { asks = salvages (drop 6 damaged); gives = record { out = refused 2 (0xD1 ∷ []) 0 ∷ frame (plain_case Reply 8 6 [] 1) ∷ []; end = 12 } }
    ∷ []

pub limits_hold : map (λ (l : Limit). came_of l.asks) limits ≡ map (λ (l : Limit). l.gives) limits
unfolding came_of handed of_refused of_read of_entry blank splice laid read_at absorb absorb_fuel look payload_of end_of frame_walk continuations walk_fuel salvaged salvage_fuel salvaged_row salvaged_bytes
limits_hold = refl
