-- A head reads the same wherever its frame stands, and a written one reads as it was sent.
use Rattle.std.specs.Prelude.{Result, Ok, Err}
use Prim.Native.Nat.{ℕ, ◌+◌, ◌-◌, ◌≤◌, ◌<◌}
use native.Mathlib.Omega.{arith}
use native.Mathlib.Decide.{dec_le}
use mathlib.Core.Path.{◌≡◌, refl, sym, ap, ap₂, ◌∙◌}
use mathlib.Core.List.{List, ◌++◌}
use lib.Dec.{eqb}
use lib.ListN.{length, get_or, drop, take, length-append, get_or-append}
use borrow.Author.Tests.{le-ltb}
use Rattle.wire.specs.Bytes.{pick, be16}
use Rattle.wire.proofs.WireLaws.{pick_no, be16_front, two_back}
use Rattle.answer.specs.declared.Refusal.TheVariants.{InvalidMagic}
use Rattle.dss_head.specs.Heads.{head_at, head_with, head_bytes, type_at, flags_of, length_of}
use Rattle.dss_head.proofs.HeadLaws.{moved_to, head_placed, head_back}
use Rattle.dss_frame.specs.Written.{Sent, head_of, written, chunks}
use Rattle.dss_laws.proofs.WritingLaws.{written_single, written_several}
use Rattle.dss_head.specs.declared.DssHeader.{DssHeader}
use Rattle.dss_head.specs.declared.DssType.{DssType}
use Rattle.answer.specs.declared.Refused.{Refused}

-- a head of numbers: its length, magic byte, format byte and correlation
abbrev over : ℕ → ℕ → ℕ → Result DssType Refused → Result DssHeader Refused
over raw format correlation (Ok t) = Ok (record { length = length_of raw; dss_type = t; flags = flags_of format; correlation_id = correlation })
over raw format correlation (Err r) = Err r

abbrev head_over : ℕ → ℕ → ℕ → ℕ → Result DssHeader Refused
head_over raw magic format correlation =
    pick (eqb magic 0xD0) (over raw format correlation (type_at format 0)) (Err (record { why = InvalidMagic magic; place = 0 }))

with_over : (s : List ℕ) (t : Result DssType Refused) → head_with s 0 t ≡ over (be16 s 0) (get_or s 3 0) (be16 s 4) t
with_over s (Ok t) = refl
with_over s (Err r) = refl

at_over : (s : List ℕ) → 6 ≤ length s → head_at s 0 ≡ head_over (be16 s 0) (get_or s 2 0) (get_or s 3 0) (be16 s 4)
at_over s h =
    pick_no _ _ (le-ltb (length s - 0) 6 (omega arith))
    ∙ ap (λ (x : Result DssHeader Refused). pick (eqb (get_or s 2 0) 0xD0) x (Err (record { why = InvalidMagic (get_or s 2 0); place = 0 }))) (with_over s (type_at (get_or s 3 0) 0))

-- what stands behind its six bytes doesn't matter to a head
head_front : (b rest : List ℕ) → 6 ≤ length b → head_at (b ++ rest) 0 ≡ head_at b 0
head_front b rest h =
    at_over (b ++ rest) (omega (arith, length-append b rest))
    ∙ ap₂ (λ (x y : ℕ). head_over x (get_or (b ++ rest) 2 0) (get_or (b ++ rest) 3 0) y) (be16_front b rest 0 (omega arith)) (be16_front b rest 4 (omega arith))
    ∙ ap₂ (λ (x y : ℕ). head_over (be16 b 0) x y (be16 b 4)) (get_or-append b rest 0 2 (omega arith)) (get_or-append b rest 0 3 (omega arith))
    ∙ sym (at_over b h)

-- a head where b stands is b's head
pub head_moved : (s b rest : List ℕ) (p : ℕ) → drop p s ≡ b ++ rest → 6 ≤ length b → head_at s p ≡ moved_to p (head_at b 0)
head_moved s b rest p d h = head_placed s p ∙ ap (λ (l : List ℕ). moved_to p (head_at l 0)) d ∙ ap (moved_to p) (head_front b rest h)

-- ---- a written head

head_sent : (f : Sent) (n : ℕ) (x b : List ℕ) → n < 65536 → f.correlation < 65536 → b ≡ head_bytes (head_of f n) ++ x → head_at b 0 ≡ Ok (head_of f (length_of (be16 b 0)))
head_sent f n x b h k e =
    ap (λ (l : List ℕ). head_at l 0) e ∙ head_back (head_of f n) x h k
    ∙ ap (λ (m : ℕ). Ok (head_of f (length_of m))) (sym (ap (λ (l : List ℕ). be16 l 0) e ∙ two_back n x h))

-- a written frame's head is as it was sent
pub head_written : (f : Sent) → f.correlation < 65536 → head_at (written f) 0 ≡ Ok (head_of f (length_of (be16 (written f) 0)))
head_written f k =
    elim (dec_le (length f.payload) 32761) [
      | yes h ↦ head_sent f (length f.payload + 6) f.payload (written f) (omega arith) k (written_single f h)
      | no h ↦ head_sent f 65535 (take 32761 f.payload ++ chunks (drop 32761 f.payload)) (written f) (omega arith) k (written_several f (omega arith))
    ]
