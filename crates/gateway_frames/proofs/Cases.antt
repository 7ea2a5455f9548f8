-- What reading all frames answers in words and leaves in the row, in cases of document 01: the definitions that the contract cites
-- aren't empty.
use Prim.Native.Nat.{ℕ}
use mathlib.Core.Path.{◌≡◌, refl}
use mathlib.Core.List.{List, [], ◌∷◌, ◌++◌}
use lib.ListN.{replicate}
use Rattle.wire.specs.Bytes.{splice, joined}
use Rattle.dss_frame.specs.Segments.{payload_of, end_of}
use Rattle.dss_frame.specs.Frames.{all_frames}
use Rattle.dss_frame.specs.FrameRecords.{payloads_of, frame_records}
use Rattle.dss_reader.specs.Reader.{given_frames}
use Rattle.gateway_frames.specs.FramesWords.{frames_words, frames_row}

-- ---- the runs

p2 : List ℕ
p2 = 0x00 ∷ 0x06 ∷ 0xD0 ∷ 0x02 ∷ 0x00 ∷ 0x07 ∷ []

-- P9, whose second segment the first absorbs
p9 : List ℕ
p9 = 0x00 ∷ 0x07 ∷ 0xD0 ∷ 0x03 ∷ 0x00 ∷ 0x01 ∷ 0xAA ∷ 0x00 ∷ 0x07 ∷ 0xD0 ∷ 0x53 ∷ 0x00 ∷ 0x01 ∷ 0xBB ∷ []

-- P9, P2, and three bytes of another frame
run : List ℕ
run = p9 ++ (p2 ++ (0x00 ∷ 0x06 ∷ 0xD0 ∷ []))

-- P8, whose second head is refused
p8 : List ℕ
p8 = p2 ++ replicate 6 0

-- ---- what is answered, and what the row then holds

answer : List ℕ → ℕ → ℕ → ℕ → List ℕ
answer s p size rows = frames_words (given_frames s p size rows (all_frames s p))

row_of : List ℕ → ℕ → List ℕ → List ℕ
row_of s size row = frames_row s 0 size row (all_frames s 0)

-- two frames, the position behind them; the second one alone; a room and a row too short; a refused head; beyond the run
cases : (answer run 0 2 2 ≡ 0 ∷ 20 ∷ 2 ∷ 2 ∷ replicate 4 0)
    × (answer run 14 0 1 ≡ 0 ∷ 20 ∷ 1 ∷ 0 ∷ replicate 4 0)
    × (row_of run 2 (replicate 21 9) ≡ (0 ∷ 0 ∷ 7 ∷ 0x43 ∷ 1 ∷ 2 ∷ 2 ∷ 0 ∷ 0 ∷ 14 ∷ []) ++ ((0 ∷ 2 ∷ 6 ∷ 0x02 ∷ 7 ∷ 0 ∷ 1 ∷ 0 ∷ 14 ∷ 20 ∷ []) ++ (9 ∷ [])))
    × (answer run 0 1 2 ≡ 9 ∷ 0 ∷ 2 ∷ 2 ∷ replicate 4 0)
    × (answer run 0 2 1 ≡ 9 ∷ 0 ∷ 2 ∷ 2 ∷ replicate 4 0)
    × (row_of run 2 (replicate 19 9) ≡ replicate 19 9)
    × (row_of run 1 (replicate 20 9) ≡ replicate 20 9)
    × (answer p8 0 9 9 ≡ 2 ∷ 6 ∷ replicate 6 0)
    × (row_of p8 9 (replicate 20 9) ≡ replicate 20 9)
    × (answer run 24 9 9 ≡ 10 ∷ 24 ∷ 24 ∷ 23 ∷ replicate 4 0)
unfolding p2 p9 run p8 answer row_of all_frames payload_of end_of payloads_of frame_records joined splice
cases = (refl, refl, refl, refl, refl, refl, refl, refl, refl, refl)
