-- The laws of a segment's head. Document 01, module 1.
use Rattle.std.specs.Prelude.{Result, Ok, Err}
use Prim.Native.Nat.{ℕ, ◌+◌, ◌*◌, ◌-◌, ◌/◌, ◌%◌, ◌≤◌, ◌<◌}
use native.Mathlib.Nat.{sub-zero, add-zero, add_assoc}
use native.Mathlib.Omega.{arith}
use mathlib.Core.Path.{◌≡◌, refl, sym, ap, ◌∙◌}
use mathlib.Core.Logic.{◌↔◌}
use mathlib.Core.Bool.{Bool, true, false}
use mathlib.Core.List.{List, [], ◌∷◌, ◌++◌}
use lib.Dec.{ltb, eqb}
use lib.ListN.{length, get_or, drop, length-drop}
use lib.Seq.{get_or-drop}
use borrow.Author.Tests.{lt-ltb, le-ltb, ltb-true, ltb-false, eq-eqb, ne_eqb, eqb-true, eqb-false}
use Rattle.wire.specs.Bytes.{pick, be16, laid}
use Rattle.wire.proofs.WireLaws.{pick_by, by, be16_same, two_back}
use Rattle.wire.proofs.Splicing.{laid_fits, splice_tail}
use Rattle.answer.specs.declared.Refusal.TheVariants.{InvalidMagic, BufferTooShort}
use Rattle.answer.specs.declared.Refused.{Refused}
use Rattle.dss_head.specs.declared.DssType.{DssType}
use Rattle.dss_head.specs.declared.DssType.TheVariants.{Reply}
use Rattle.dss_head.specs.declared.DssFlags.{DssFlags}
use Rattle.dss_head.specs.declared.DssHeader.{DssHeader}
use Rattle.dss_head.specs.declared.Chunk.{Chunk}
use Rattle.dss_head.specs.declared.Chunk.TheVariants.{Dead, Last, Full}
use Rattle.dss_head.specs.Heads.{length_of, is_full, continuation_length, chunk_of, type_at, type_byte, bit, flags_of, flags_byte, head_with, head_at, head_bytes}
use Rattle.dss_head.proofs.TypeLaws.{type_back, type_by, type_range, type_none}

-- ---- lengths

-- what each answer of the decision goes with
pub chunk_by {κ} : (P : Chunk → Type κ) (raw : ℕ) → (raw < 2 → P Dead) → (2 ≤ raw → raw < 0xFFFF → (raw ≡ 0x7FFF → ⊥) → P Last)
    → (raw ≡ 0x7FFF → P Full) → (0xFFFF ≤ raw → P Full) → P (chunk_of raw)
chunk_by P raw dead last low high =
    pick_by P (ltb raw 2) _ _ (λ t. dead (ltb-true raw 2 t)) (λ t.
    let a : 2 ≤ raw = ltb-false raw 2 t in
    pick_by P (ltb raw 0x7FFF) _ _ (λ t. let b : raw < 0x7FFF = ltb-true raw 0x7FFF t in last a (omega arith) (omega arith)) (λ _.
    pick_by P (eqb raw 0x7FFF) _ _ (λ t. low (eqb-true raw 0x7FFF t)) (λ t.
    pick_by P (ltb raw 0xFFFF) _ _ (λ u. last a (ltb-true raw 0xFFFF u) (eqb-false raw 0x7FFF t)) (λ u. high (ltb-false raw 0xFFFF u)))))

-- another continuation must follow exactly where the decision is Full
pub full_chunks : (raw : ℕ) → raw < 65536 → (is_full raw ≡ true) ↔ (chunk_of raw ≡ Full)
full_chunks raw h = (there, back)
  where
    there : is_full raw ≡ true → chunk_of raw ≡ Full
    there e = by (eqb raw 0xFFFF) (λ t. ap chunk_of (eqb-true raw 0xFFFF t)) (λ t. ap chunk_of (eqb-true raw 0x7FFF (rw t at e)))

    back : chunk_of raw ≡ Full → is_full raw ≡ true
    back =
        chunk_by (λ (c : Chunk). c ≡ Full → is_full raw ≡ true) raw (λ _ e. let z : ◌≡◌ {A = ℕ} 0 1 = cc in absurd (omega arith))
        (λ _ _ _ e. let z : ◌≡◌ {A = ℕ} 0 1 = cc in absurd (omega arith)) (λ e _. ap is_full e)
        (λ l _. let e : raw ≡ 0xFFFF = omega arith in ap is_full e)

full_chunks_met : (is_full 0x7FFF ≡ true) × (chunk_of 0x7FFF ≡ Full)
full_chunks_met = (refl, refl)

-- a last continuation takes as many bytes as its raw length says
pub last_chunks : (raw : ℕ) → chunk_of raw ≡ Last → continuation_length raw ≡ raw
last_chunks raw =
    chunk_by (λ (c : Chunk). c ≡ Last → continuation_length raw ≡ raw) raw (λ _ e. let z : ◌≡◌ {A = ℕ} 0 1 = cc in absurd (omega arith))
    (λ _ b n _. rw (ne_eqb raw 0xFFFF (omega arith), ne_eqb raw 0x7FFF n)) (λ _ e. let z : ◌≡◌ {A = ℕ} 0 1 = cc in absurd (omega arith))
    (λ _ e. let z : ◌≡◌ {A = ℕ} 0 1 = cc in absurd (omega arith))

last_chunks_met : (chunk_of 0xFFFE ≡ Last) × (continuation_length 0xFFFE ≡ 0xFFFE)
last_chunks_met = (refl, refl)

-- ---- the format byte

-- an even number more changes no remainder by two
even : (q k : ℕ) → (q + 2 * k) % 2 ≡ q % 2
even q k = omega arith

-- 0x80 changes neither type nor flags
pub high_bit_dropped : (b place : ℕ) → (type_at (b + 128) place ≡ type_at b place) × (flags_of (b + 128) ≡ flags_of b)
high_bit_dropped b place =
    let t : (b + 128) % 16 ≡ b % 16 = omega arith in
    let x : (b + 128) / 0x40 ≡ b / 0x40 + 2 * 1 = omega arith in
    let y : (b + 128) / 0x20 ≡ b / 0x20 + 2 * 2 = omega arith in
    let z : (b + 128) / 0x10 ≡ b / 0x10 + 2 * 4 = omega arith in
    (rw t, rw (x, y, z, even (b / 0x40) 1, even (b / 0x20) 2, even (b / 0x10) 4))

-- the most that flags come to
flag_most : (set : Bool) (weight : ℕ) → pick set weight 0 ≤ weight
flag_most true weight = omega arith
flag_most false weight = omega arith

pub flags_most : (f : DssFlags) → flags_byte f ≤ 0x70
flags_most f = omega (arith, flag_most f.chained 0x40, flag_most f.continue_on_error 0x20, flag_most f.same_correlation 0x10)

-- the flags are a number of sixteens
sixteens : DssFlags → ℕ
sixteens f = pick f.same_correlation 1 0 + 2 * (pick f.continue_on_error 1 0 + 2 * pick f.chained 1 0)

weigh : (set : Bool) (weight : ℕ) → pick set weight 0 ≡ weight * pick set 1 0
weigh true weight = omega arith
weigh false weight = omega arith

flags_sixteens : (f : DssFlags) → flags_byte f ≡ 16 * sixteens f
unfolding sixteens
flags_sixteens f = omega (arith, weigh f.chained 0x40, weigh f.continue_on_error 0x20, weigh f.same_correlation 0x10)

bit_back : (set : Bool) (weight b q : ℕ) → b / weight ≡ pick set 1 0 + 2 * q → bit weight b ≡ set
bit_back true weight b q e = ap (λ (k : ℕ). eqb (k % 2) 1) e ∙ ap (λ (k : ℕ). eqb k 1) (even 1 q)
bit_back false weight b q e = ap (λ (k : ℕ). eqb (k % 2) 1) e ∙ ap (λ (k : ℕ). eqb k 1) (even 0 q)

-- flags read as they were written, whatever type stands below them
flags_back : (f : DssFlags) (n : ℕ) → n < 16 → flags_of (n + flags_byte f) ≡ f
unfolding sixteens
flags_back f n h =
    let b = n + flags_byte f in
    let c : ℕ = pick f.chained 1 0 in
    let d : ℕ = pick f.continue_on_error 1 0 in
    let m : ℕ = pick f.same_correlation 1 0 in
    let w : flags_byte f ≡ 16 * (m + 2 * (d + 2 * c)) = flags_sixteens f in
    let u : c ≤ 1 = flag_most f.chained 1 in
    let v : d ≤ 1 = flag_most f.continue_on_error 1 in
    let l : m ≤ 1 = flag_most f.same_correlation 1 in
    let x : b / 0x40 ≡ c + 2 * 0 = omega arith in
    let y : b / 0x20 ≡ d + 2 * c = omega arith in
    let z : b / 0x10 ≡ m + 2 * (d + 2 * c) = omega arith in
    λ i. record {
      chained = bit_back f.chained 0x40 b 0 x i;
      continue_on_error = bit_back f.continue_on_error 0x20 b c y i;
      same_correlation = bit_back f.same_correlation 0x10 b (d + 2 * c) z i;
    }

-- a format byte says the type and the flags that it was made of
pub format_back : (t : DssType) (f : DssFlags) (place : ℕ) → (type_at (type_byte t + flags_byte f) place ≡ Ok t) × (flags_of (type_byte t + flags_byte f) ≡ f)
format_back t f place = (
  type_back t (type_byte t + flags_byte f) place (omega (arith, type_range t, flags_sixteens f)),
  flags_back f (type_byte t) (omega (arith, type_range t)),
)

-- ---- a head at a place, answer by answer

-- a head that is found isn't refused
pub found_refused : (h : DssHeader) (r : Refused) → Ok h ≡ Err r → ⊥
found_refused h r e = let z : ◌≡◌ {A = ℕ} 0 1 = cc in omega arith

module _ (s : List ℕ) (at : ℕ) where
  pub head_short : (n : ℕ) → length s - at ≡ n → n < 6 → head_at s at ≡ Err (record { why = BufferTooShort 6 n; place = at })
  head_short n e h = rw (e, lt-ltb n 6 h)

  module _ (h : 6 ≤ length s - at) where
    pub head_magic : (get_or s (at + 2) 0 ≡ 0xD0 → ⊥) → head_at s at ≡ Err (record { why = InvalidMagic (get_or s (at + 2) 0); place = at })
    head_magic k = rw (le-ltb (length s - at) 6 h, ne_eqb (get_or s (at + 2) 0) 0xD0 k)

    pub head_typed : get_or s (at + 2) 0 ≡ 0xD0 → head_at s at ≡ head_with s at (type_at (get_or s (at + 3) 0) at)
    head_typed e = rw (le-ltb (length s - at) 6 h, eq-eqb (get_or s (at + 2) 0) 0xD0 e)

-- ---- a written head

-- a written head as it is read: its length by the rule of raw lengths, the rest as it was
abbrev pub as_read : DssHeader → DssHeader
as_read h = record { length = length_of h.length; dss_type = h.dss_type; flags = h.flags; correlation_id = h.correlation_id }

-- every head that was written is read, whatever stands behind it
pub head_back : (h : DssHeader) (rest : List ℕ) → h.length < 65536 → h.correlation_id < 65536 → head_at (head_bytes h ++ rest) 0 ≡ Ok (as_read h)
head_back h rest a b =
    let t = h.dss_type in
    let s = head_bytes h ++ rest in
    let e = format_back t h.flags 0 in
    head_typed s 0 (omega arith) refl
    ∙ ap (head_with s 0) e.0
    ∙ (λ i. Ok (record {
      length = length_of (two_back h.length rest a i);
      dss_type = t;
      flags = e.1 i;
      correlation_id = two_back h.correlation_id rest b i;
    }))

-- the same of a room that it was laid into
pub laid_back : (h : DssHeader) (room : List ℕ) → h.length < 65536 → h.correlation_id < 65536 → 6 ≤ length room
    → head_at (laid room 0 (head_bytes h)) 0 ≡ Ok (as_read h)
laid_back h room a b k =
    ap (λ (s : List ℕ). head_at s 0) (laid_fits room 0 (head_bytes h) k ∙ splice_tail room 0 (head_bytes h) (omega arith)) ∙ head_back h (drop 6 room) a b

-- a head with all three flags, and with the raw length that reads as another
abbrev full_head : ℕ → DssHeader
full_head n = record {
  length = n;
  dss_type = Reply;
  flags = record { chained = true; continue_on_error = true; same_correlation = true };
  correlation_id = 0x1234;
}

head_back_met : (head_bytes (full_head 0xFFFF) ≡ 0xFF ∷ 0xFF ∷ 0xD0 ∷ 0x72 ∷ 0x12 ∷ 0x34 ∷ []) × (head_at (head_bytes (full_head 0xFFFF) ++ (7 ∷ [])) 0 ≡ Ok (full_head 32767))
head_back_met = (refl, refl)

-- ---- the same head at another place

-- a head found, or its refusal with the place p
abbrev pub moved_to : ℕ → Result DssHeader Refused → Result DssHeader Refused
moved_to p (Ok h) = Ok h
moved_to p (Err r) = Err (record { why = r.why; place = p })

be16_drop : (s : List ℕ) (at i : ℕ) → be16 (drop at s) i ≡ be16 s (at + i)
be16_drop s at i =
    be16_same (drop at s) s i (at + i) (get_or-drop at s i 0) (get_or-drop at s (i + 1) 0 ∙ ap (λ (k : ℕ). get_or s k 0) (sym (add_assoc at i 1)))

with_placed : (s : List ℕ) (at b : ℕ) → head_with s at (type_at b at) ≡ moved_to at (head_with (drop at s) 0 (type_at b 0))
with_placed s at b =
    type_by (λ (x : Result DssType Refused). head_with s at x ≡ moved_to at (head_with (drop at s) 0 (type_at b 0))) b at
    (λ t e. rw (type_back t b 0 e, be16_drop s at 0, be16_drop s at 4, get_or-drop at s 3 0, add-zero at)) (λ h. rw (type_none b 0 h))

module _ (s : List ℕ) (at : ℕ) where
  placed_length : length (drop at s) - 0 ≡ length s - at
  placed_length = sub-zero (length (drop at s)) ∙ length-drop at s

  placed_short : length s - at < 6 → head_at s at ≡ moved_to at (head_at (drop at s) 0)
  placed_short h = head_short s at (length s - at) refl h ∙ ap (moved_to at) (sym (head_short (drop at s) 0 (length s - at) placed_length h))

  placed_magic : 6 ≤ length s - at → (get_or s (at + 2) 0 ≡ 0xD0 → ⊥) → head_at s at ≡ moved_to at (head_at (drop at s) 0)
  placed_magic h k =
      let m : get_or (drop at s) 2 0 ≡ get_or s (at + 2) 0 = get_or-drop at s 2 0 in
      head_magic s at h k
      ∙ ap (λ (b : ℕ). Err (record { why = InvalidMagic b; place = at })) (sym m)
      ∙ ap (moved_to at) (sym (head_magic (drop at s) 0 (omega (arith, placed_length)) (λ e. k (sym m ∙ e))))

  placed_typed : 6 ≤ length s - at → get_or s (at + 2) 0 ≡ 0xD0 → head_at s at ≡ moved_to at (head_at (drop at s) 0)
  placed_typed h e =
      head_typed s at h e
      ∙ with_placed s at (get_or s (at + 3) 0)
      ∙ ap (λ (b : ℕ). moved_to at (head_with (drop at s) 0 (type_at b 0))) (sym (get_or-drop at s 3 0))
      ∙ ap (moved_to at) (sym (head_typed (drop at s) 0 (omega (arith, placed_length)) (get_or-drop at s 2 0 ∙ e)))

  -- a head is read at a place as from the bytes that start there
  pub head_placed : head_at s at ≡ moved_to at (head_at (drop at s) 0)
  head_placed =
      by (ltb (length s - at) 6) (λ t. placed_short (ltb-true (length s - at) 6 t)) (λ t.
      by (eqb (get_or s (at + 2) 0) 0xD0) (λ u. placed_typed (ltb-false (length s - at) 6 t) (eqb-true (get_or s (at + 2) 0) 0xD0 u))
      (λ u. placed_magic (ltb-false (length s - at) 6 t) (eqb-false (get_or s (at + 2) 0) 0xD0 u)))
