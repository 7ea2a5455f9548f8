-- The lists of a few inputs: document 01's own, one whose second frame is lost to the refusal behind it, one that ends in a frame
-- that is never whole, both sides of 65,536 bytes, and the room that the programs lend.
use Rattle.std.specs.Prelude.{Ok}
use mathlib.Core.Path.{◌≡◌, refl, ap, ◌∙◌}
use mathlib.Core.List.{List, [], ◌∷◌, ◌++◌}
use Prim.Native.Nat.{ℕ}
use lib.ListN.{length, replicate, length-replicate}
use Rattle.wire.specs.Bytes.{laid, Octets}
use Rattle.wire.proofs.OctetLaws.{octets_tested}
use Rattle.answer.specs.Rooms.{laid_at_start}
use Rattle.text.specs.Texts.{text}
use Rattle.dss_frame.specs.declared.Rules.TheVariants.{Reader, Salvage}
use Rattle.listing.specs.ListTexts.{list_text}
use Rattle.listing.proofs.Fits.{never_short}

-- `000AD00100010004200D`, and P2
request : List ℕ
request = 0x00 ∷ 0x0A ∷ 0xD0 ∷ 0x01 ∷ 0x00 ∷ 0x01 ∷ 0x00 ∷ 0x04 ∷ 0x20 ∷ 0x0D ∷ []

reply : List ℕ
reply = 0x00 ∷ 0x06 ∷ 0xD0 ∷ 0x02 ∷ 0x00 ∷ 0x07 ∷ []

-- "Input .. as 16 bytes gives:"
given : list_text Reader (request ++ reply) ≡ text "at 0 request --- corr 1 seg 1 bytes 4\nat 10 reply --- corr 7 seg 1 bytes 0\nend 16 left 0\n"
unfolding list_text request reply
given = refl

-- with six zero bytes behind: the reader's look ahead refuses, and the frame already read is lost; salvage closes it, and ends there
refusal : (list_text Reader (request ++ (reply ++ replicate 6 0)) ≡ text "at 0 request --- corr 1 seg 1 bytes 4\nrefused 2 at 16 value 0\n")
    × (list_text Salvage (request ++ (reply ++ replicate 6 0))
    ≡ text "at 0 request --- corr 1 seg 1 bytes 4\nat 10 reply --- corr 7 seg 1 bytes 0\nrefused 2 at 16 value 0\nend 16 left 6\n")
unfolding list_text request reply
refusal = (refl, refl)

-- a reply, and a frame in several segments with 0 or 1 where its second length is due, or with only half of it: the end line for each
unfinished : List ℕ → List ℕ
unfinished rest = reply ++ (0xFF ∷ 0xFF ∷ 0xD0 ∷ 0x03 ∷ 0x00 ∷ 0x01 ∷ (replicate 32761 0xC1 ++ rest))

never_whole : (list_text Reader (unfinished (0 ∷ 1 ∷ [])) ≡ text "at 0 reply --- corr 7 seg 1 bytes 0\nend 6 left 32769\n")
    × (list_text Salvage (unfinished (0 ∷ 0 ∷ [])) ≡ text "at 0 reply --- corr 7 seg 1 bytes 0\nend 6 left 32769\n")
    × (list_text Reader (unfinished (0 ∷ [])) ≡ text "at 0 reply --- corr 7 seg 1 bytes 0\nend 6 left 32768\n")
unfolding list_text unfinished reply
never_whole = (refl, refl, refl)

-- nothing, and both sides of the most that is read
edges : (list_text Reader [] ≡ text "end 0 left 0\n")
    × (list_text Reader (replicate 65536 0) ≡ text "refused 2 at 0 value 0\n")
    × (list_text Reader (replicate 65537 0) ≡ text "input too long\n")
    × (list_text Salvage (replicate 65537 0) ≡ text "input too long\n")
unfolding list_text
edges = (refl, refl, refl, refl)

-- a room of so many bytes
zeros : ℕ → List ℕ
zeros n = replicate n 0

zeros_length : (n : ℕ) → length (zeros n) ≡ n
unfolding zeros
zeros_length n = length-replicate n 0

octets : Octets (request ++ reply)
unfolding request reply
octets = octets_tested (request ++ reply) refl

-- the list in the room that the programs lend
lent : laid_at_start 0 (length (zeros 720000)) (length (list_text Reader (request ++ reply))) ≡ Ok 89
lent =
    never_short Reader (request ++ reply) (zeros 720000) octets (zeros_length 720000) {after = laid (zeros 720000) 0 (list_text Reader (request ++ reply))}
    (record { answers = refl; room_is = refl })
    ∙ ap (λ (t : List ℕ). Ok (length t)) given
