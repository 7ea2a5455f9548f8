-- What the salvage reading answers in words and leaves in the row, in cases of document 01: the definitions that the contract cites
-- aren't empty.
use Prim.Native.Nat.{ℕ}
use mathlib.Core.Path.{◌≡◌, refl}
use mathlib.Core.List.{List, [], ◌∷◌, ◌++◌}
use lib.ListN.{replicate}
use Rattle.wire.specs.Bytes.{splice, landed, joined}
use Rattle.dss_frame.specs.Segments.{payload_of, end_of}
use Rattle.dss_frame.specs.Salvage.{salvaged}
use Rattle.dss_salvage.specs.SalvageEntries.{salvaged_bytes, salvaged_row}
use Rattle.dss_salvage_call.specs.SalvageCall.{entries_fit, given_entries}
use Rattle.gateway_row.specs.RowWords.{places}
use Rattle.gateway_salvage.specs.SalvageWords.{entry_words, salvaged_words}

-- ---- the runs

p2 : List ℕ
p2 = 0x00 ∷ 0x06 ∷ 0xD0 ∷ 0x02 ∷ 0x00 ∷ 0x07 ∷ []

p8 : List ℕ
p8 = p2 ++ replicate 6 0

-- P9, whose second segment the first absorbs
p9 : List ℕ
p9 = 0x00 ∷ 0x07 ∷ 0xD0 ∷ 0x03 ∷ 0x00 ∷ 0x01 ∷ 0xAA ∷ 0x00 ∷ 0x07 ∷ 0xD0 ∷ 0x53 ∷ 0x00 ∷ 0x01 ∷ 0xBB ∷ []

-- P9, a frame of eight bytes with no type, P2, and three bytes more
spoilt : List ℕ
spoilt = p9 ++ ((0x00 ∷ 0x08 ∷ 0xD0 ∷ 0x06 ∷ 0x00 ∷ 0x07 ∷ 0xC1 ∷ 0xC2 ∷ []) ++ (p2 ++ (0x00 ∷ 0x06 ∷ 0xD0 ∷ [])))

-- ---- what is answered, and what the row then holds

answer : List ℕ → ℕ → ℕ → List ℕ
answer s size rows = salvaged_words (given_entries s size rows (salvaged s))

row_of : List ℕ → ℕ → List ℕ → List ℕ
row_of s size row = landed (entries_fit s (salvaged s).entries size (places row)) row (joined entry_words (salvaged_row s 0 (salvaged s).entries))

-- P8; a spoilt frame between good ones, and a tail; no bytes; a room or a row too short
cases : (answer p8 0 2 ≡ 0 ∷ 0 ∷ 2 ∷ 0 ∷ 6 ∷ replicate 3 0)
    × (row_of p8 0 (replicate 20 9) ≡ (0 ∷ 0 ∷ 6 ∷ 0x02 ∷ 7 ∷ 0 ∷ 1 ∷ 0 ∷ 0 ∷ 6 ∷ []) ++ (2 ∷ 6 ∷ 0 ∷ 0 ∷ 0 ∷ 0 ∷ 0 ∷ 0 ∷ 6 ∷ 6 ∷ []))
    × (answer spoilt 2 3 ≡ 0 ∷ 0 ∷ 3 ∷ 2 ∷ 28 ∷ replicate 3 0)
    × (row_of spoilt 2 (replicate 31 9) ≡ (0 ∷ 0 ∷ 7 ∷ 0x43 ∷ 1 ∷ 2 ∷ 2 ∷ 0 ∷ 0 ∷ 14 ∷ []) ++ ((3 ∷ 14 ∷ 6 ∷ 0 ∷ 0 ∷ 0 ∷ 0 ∷ 0 ∷ 14 ∷ 22 ∷ []) ++ ((0 ∷ 2 ∷ 6 ∷ 0x02 ∷ 7 ∷ 0 ∷ 1 ∷ 0 ∷ 22 ∷ 28 ∷ []) ++ (9 ∷ []))))
    × (answer [] 0 0 ≡ replicate 8 0)
    × (answer spoilt 1 3 ≡ 9 ∷ 0 ∷ 2 ∷ 3 ∷ replicate 4 0)
    × (answer spoilt 2 2 ≡ 9 ∷ 0 ∷ 2 ∷ 3 ∷ replicate 4 0)
    × (row_of spoilt 1 (replicate 30 9) ≡ replicate 30 9)
    × (row_of spoilt 2 (replicate 29 9) ≡ replicate 29 9)
unfolding p2 p8 p9 spoilt answer row_of salvaged payload_of end_of salvaged_bytes salvaged_row joined splice
cases = (refl, refl, refl, refl, refl, refl, refl, refl, refl)
