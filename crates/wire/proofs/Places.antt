-- What stands at a place of a run: `drop q s ≡ b ++ rest` says that b stands at q.
use Prim.Native.Nat.{ℕ, ◌+◌, ◌-◌, ◌<◌}
use native.Mathlib.Omega.{arith}
use native.Mathlib.Nat.{add_assoc}
use mathlib.Core.Path.{◌≡◌, refl, sym, ap, ◌∙◌}
use mathlib.Core.List.{List, ◌++◌}
use lib.ListN.{length, get_or, take, drop, length-append, length-drop, get_or-append}
use lib.Seq.{get_or-drop, drop-drop, drop_at, take_at}
use Rattle.wire.specs.Bytes.{be16, part}
use Rattle.wire.proofs.WireLaws.{be16_same}

pub here_byte : (s b rest : List ℕ) (q i : ℕ) → drop q s ≡ b ++ rest → i < length b → get_or s (q + i) 0 ≡ get_or b i 0
here_byte s b rest q i e h = sym (get_or-drop q s i 0) ∙ ap (λ (l : List ℕ). get_or l i 0) e ∙ get_or-append b rest 0 i h

pub here_two : (s b rest : List ℕ) (q i : ℕ) → drop q s ≡ b ++ rest → i + 1 < length b → be16 s (q + i) ≡ be16 b i
here_two s b rest q i e h =
    be16_same s b (q + i) i (here_byte s b rest q i e (omega arith))
    (ap (λ (k : ℕ). get_or s k 0) (add_assoc q i 1) ∙ here_byte s b rest q (i + 1) e h)

-- the same at b's first byte
pub here_first : (s b rest : List ℕ) (q : ℕ) → drop q s ≡ b ++ rest → 1 < length b → be16 s q ≡ be16 b 0
here_first s b rest q e h = let z : q ≡ q + 0 = omega arith in ap (be16 s) z ∙ here_two s b rest q 0 e h

pub here_length : (s b rest : List ℕ) (q : ℕ) → drop q s ≡ b ++ rest → length s - q ≡ length b + length rest
here_length s b rest q e = sym (length-drop q s) ∙ ap length e ∙ length-append b rest

-- what follows b
pub here_next : (s b rest : List ℕ) (q n : ℕ) → drop q s ≡ b ++ rest → q + length b ≡ n → drop n s ≡ rest
here_next s b rest q n e h =
    ap (λ (k : ℕ). drop k s) (sym h) ∙ sym (drop-drop (length b) q s) ∙ ap (drop (length b)) e ∙ drop_at b rest (length b) refl

-- a part that is b
pub here_part : (s b rest : List ℕ) (a e : ℕ) → drop a s ≡ b ++ rest → e - a ≡ length b → part s a e ≡ b
here_part s b rest a e h k = ap (take (e - a)) h ∙ take_at b rest (e - a) (sym k)

-- a piece at a: n bytes of framing, then x, up to e
pub piece_part : (s framing x rest : List ℕ) (a n e : ℕ) → drop a s ≡ framing ++ (x ++ rest) → length framing ≡ n → e ≡ a + n + length x → part s (a + n + 0) e ≡ x
piece_part s framing x rest a n e d l h = here_part s x rest (a + n + 0) e (here_next s framing (x ++ rest) a (a + n + 0) d (omega arith)) (omega arith)

pub piece_next : (s framing x rest : List ℕ) (a n e : ℕ) → drop a s ≡ framing ++ (x ++ rest) → length framing ≡ n → e ≡ a + n + length x → drop e s ≡ rest
piece_next s framing x rest a n e d l h = here_next s x rest (a + n) e (here_next s framing (x ++ rest) a (a + n) d (omega arith)) (omega arith)
