-- A record can be read back from its words, and a row says its records: cut into parts of a record's length, it is their words.
use Rattle.std.specs.Prelude.{Result, Ok}
use Prim.Native.Nat.{ℕ, ◌+◌, ◌*◌, ◌≤◌, ◌<◌}
use native.Mathlib.Omega.{arith}
use native.Mathlib.Nat.{zero-mul, suc-mul, add_comm}
use mathlib.Core.Path.{◌≡◌, refl, sym, ap, ap₂, ◌∙◌}
use mathlib.Core.Bool.{true, false}
use mathlib.Core.List.{List, [], ◌∷◌, ◌++◌, map, append_assoc}
use lib.Dec.{eqb}
use lib.ListN.{length, get_or, take, drop, replicate, length-append}
use lib.Seq.{take_at, drop_at}
use Rattle.wire.specs.Bytes.{pick, splice, joined}
use Rattle.wire.proofs.Splicing.{splice_tail, splice_rest}
use Rattle.answer.specs.Numbers.{number_of, values_of}
use Rattle.answer.specs.declared.Refusal.{Refusal}
use Rattle.answer.specs.declared.Refusal.TheVariants.{Incomplete, InvalidMagic, InvalidDssType, BufferTooShort, InlineTooShort, HeaderTooShort, LengthTooShort, LengthTooLarge, NoRoom, OutOfBounds, NotFound, DeadContinuation, UnsoundData, UnreadableSize}
use Rattle.answer.specs.declared.Refused.{Refused}
use Rattle.dss_head.specs.Heads.{type_at, flags_of}
use Rattle.dss_head.proofs.HeadLaws.{format_back}
use Rattle.dss_head.specs.declared.DssType.{DssType}
use Rattle.dss_head.specs.declared.DssType.TheVariants.{Reply}
use Rattle.dss_head.specs.declared.DssHeader.{DssHeader}
use Rattle.dss_frame.specs.declared.DssFrame.{DssFrame}
use Rattle.gateway_words.specs.AnswerWords.{answer_len, refusal_words}
use Rattle.gateway_row.specs.RowWords.{format_byte, record_words, refused_words, record_len, cut}

-- ---- a frame

-- the format byte says the type and the flags
pub format_says : (h : DssHeader) → (type_at (format_byte h) 0 ≡ Ok h.dss_type) × (flags_of (format_byte h) ≡ h.flags)
format_says h = format_back h.dss_type h.flags 0

one_type : {t u : DssType} → ◌≡◌ {A = Result DssType Refused} (Ok t) (Ok u) → t ≡ u
one_type e = cc

-- the words of two records are the same only where the records are
pub record_back : (f g : DssFrame) → record_words f ≡ record_words g → f ≡ g
record_back f g e =
    let w : (k : ℕ) → get_or (record_words f) k 0 ≡ get_or (record_words g) k 0 = λ k. ap (λ (l : List ℕ). get_or l k 0) e in
    let t : f.header.dss_type ≡ g.header.dss_type =
    one_type (sym (format_says f.header).0 ∙ ap (λ (b : ℕ). type_at b 0) (w 3) ∙ (format_says g.header).0) in
    let b : f.header.flags ≡ g.header.flags = sym (format_says f.header).1 ∙ ap flags_of (w 3) ∙ (format_says g.header).1 in
    λ i. record {
      header = record { length = w 2 i; dss_type = t i; flags = b i; correlation_id = w 4 i };
      payload_at = w 1 i;
      payload_len = w 5 i;
      segments = w 6 i;
      at = w 8 i;
      end = w 9 i;
    }

-- ---- a refusal

-- the refusal of a number and three values
abbrev refusal_said : ℕ → ℕ → ℕ → ℕ → Refusal
refusal_said n a b c =
    pick (eqb n 1) Incomplete
    (pick (eqb n 2) (InvalidMagic a)
    (pick (eqb n 3) (InvalidDssType a)
    (pick (eqb n 4) (BufferTooShort a b)
    (pick (eqb n 5) (InlineTooShort a c)
    (pick (eqb n 6) (HeaderTooShort a)
    (pick (eqb n 7) (LengthTooShort a)
    (pick (eqb n 8) (LengthTooLarge a)
    (pick (eqb n 9) (NoRoom a b)
    (pick (eqb n 10) (OutOfBounds a b)
    (pick (eqb n 11) NotFound
    (pick (eqb n 16) DeadContinuation
    (pick (eqb n 17) UnsoundData UnreadableSize))))))))))))

said_back : (y : Refusal) → refusal_said (number_of y) (get_or (values_of y) 0 0) (get_or (values_of y) 1 0) (get_or (values_of y) 2 0) ≡ y
said_back Incomplete = refl
said_back (InvalidMagic b) = refl
said_back (InvalidDssType t) = refl
said_back (BufferTooShort e a) = refl
said_back (InlineTooShort l c) = refl
said_back (HeaderTooShort h) = refl
said_back (LengthTooShort l) = refl
said_back (LengthTooLarge h) = refl
said_back (NoRoom b r) = refl
said_back (OutOfBounds m l) = refl
said_back NotFound = refl
said_back DeadContinuation = refl
said_back UnsoundData = refl
said_back UnreadableSize = refl

-- the words of two refusals are the same only where number, place and values are
pub refusal_back : (r q : Refused) → refusal_words r ≡ refusal_words q → r ≡ q
refusal_back r q e =
    let w : (k : ℕ) → get_or (refusal_words r) k 0 ≡ get_or (refusal_words q) k 0 = λ k. ap (λ (l : List ℕ). get_or l k 0) e in
    let y : r.why ≡ q.why =
    sym (said_back r.why) ∙ (λ i. refusal_said (w 0 i) (w 2 i) (w 3 i) (w 4 i)) ∙ said_back q.why in
    λ i. record { why = y i; place = w 1 i }

-- and so of their records: where they stood is the same too
pub refused_back : (r q : Refused) (a b e g : ℕ) → refused_words r a e ≡ refused_words q b g → (r ≡ q) × (a ≡ b) × (e ≡ g)
refused_back r q a b e g h = (refusal_back r q (ap (take answer_len) h), ap (λ (l : List ℕ). get_or l 8 0) h, ap (λ (l : List ℕ). get_or l 9 0) h)

-- a refusal has a number, and a frame's first word is 0
pub numbered : (y : Refusal) → 1 ≤ number_of y
numbered Incomplete = omega arith
numbered (InvalidMagic b) = omega arith
numbered (InvalidDssType t) = omega arith
numbered (BufferTooShort e a) = omega arith
numbered (InlineTooShort l c) = omega arith
numbered (HeaderTooShort h) = omega arith
numbered (LengthTooShort l) = omega arith
numbered (LengthTooLarge h) = omega arith
numbered (NoRoom b r) = omega arith
numbered (OutOfBounds m l) = omega arith
numbered NotFound = omega arith
numbered DeadContinuation = omega arith
numbered UnsoundData = omega arith
numbered UnreadableSize = omega arith

pub never_both : (f : DssFrame) (r : Refused) (a e : ℕ) → record_words f ≡ refused_words r a e → ⊥
never_both f r a end e =
    let z : 0 ≡ number_of r.why = ap (λ (l : List ℕ). get_or l 0 0) e in
    omega (arith, numbered r.why)

-- ---- a row

module _ {A : Type 0} (words : A → List ℕ) (m : ℕ) (wide : (x : A) → length (words x) ≡ m) where
  -- one record's words, and those behind it
  first_is : (x : A) (xs : List A) (rest : List ℕ) → take m (joined words (x ∷ xs) ++ rest) ≡ words x
  unfolding joined
  first_is x xs rest = ap (take m) (append_assoc (words x) (joined words xs) rest) ∙ take_at (words x) (joined words xs ++ rest) m (wide x)

  others_are : (x : A) (xs : List A) (rest : List ℕ) → drop m (joined words (x ∷ xs) ++ rest) ≡ joined words xs ++ rest
  unfolding joined
  others_are x xs rest = ap (drop m) (append_assoc (words x) (joined words xs) rest) ∙ drop_at (words x) (joined words xs ++ rest) m (wide x)

  cut_is : (xs : List A) (rest : List ℕ) → cut m (length xs) (joined words xs ++ rest) ≡ map words xs
  unfolding cut
  cut_is [] rest = refl
  cut_is (x ∷ xs) rest =
      ap₂ (λ (w : List ℕ) (ws : List (List ℕ)). w ∷ ws) (first_is x xs rest) (ap (cut m (length xs)) (others_are x xs rest) ∙ cut_is xs rest)

  pub joined_length : (xs : List A) → length (joined words xs) ≡ length xs * m
  unfolding joined
  joined_length [] = sym (zero-mul m)
  joined_length (x ∷ xs) =
      length-append (words x) (joined words xs) ∙ ap₂ (λ (a b : ℕ). a + b) (wide x) (joined_length xs) ∙ add_comm m (length xs * m) ∙ sym (suc-mul (length xs) m)

  -- a row with records laid into it, cut into parts of their length, is the records' words
  pub row_says : (row : List ℕ) (xs : List A) → cut m (length xs) (splice row 0 (joined words xs)) ≡ map words xs
  row_says row xs = ap (cut m (length xs)) (splice_tail row 0 (joined words xs) (omega arith)) ∙ cut_is xs (drop (0 + length (joined words xs)) row)

  -- and behind them it is as it was
  pub row_rest : (row : List ℕ) (xs : List A) → drop (length xs * m) (splice row 0 (joined words xs)) ≡ drop (length xs * m) row
  row_rest row xs =
      let z : length xs * m ≡ 0 + length (joined words xs) = sym (joined_length xs) ∙ omega arith in
      ap (λ (n : ℕ). drop n (splice row 0 (joined words xs))) z ∙ splice_rest row 0 (joined words xs) (omega arith) ∙ ap (λ (n : ℕ). drop n row) (sym z)

  -- where a record has words and can be read back from them, so can a list of them
  pub joined_back : 0 < m → ((x y : A) → words x ≡ words y → x ≡ y) → (xs ys : List A) → joined words xs ≡ joined words ys → xs ≡ ys
  unfolding joined
  joined_back some back [] [] e = refl
  joined_back some back [] (y ∷ ys) e = absurd (omega (arith, ap length e, length-append (words y) (joined words ys), wide y))
  joined_back some back (x ∷ xs) [] e = absurd (omega (arith, ap length e, length-append (words x) (joined words xs), wide x))
  joined_back some back (x ∷ xs) (y ∷ ys) e =
      ap₂ (λ (z : A) (zs : List A). z ∷ zs)
      (back x y (sym (take_at (words x) (joined words xs) m (wide x)) ∙ ap (take m) e ∙ take_at (words y) (joined words ys) m (wide y)))
      (joined_back some back xs ys (sym (drop_at (words x) (joined words xs) m (wide x)) ∙ ap (drop m) e ∙ drop_at (words y) (joined words ys) m (wide y)))

-- a row of frames' records says the records, and no others
pub records_back : (fs gs : List DssFrame) → joined record_words fs ≡ joined record_words gs → fs ≡ gs
records_back fs gs e = joined_back record_words record_len (λ (f : DssFrame). refl) (omega arith) record_back fs gs e

-- ---- an example

-- a chained reply that stood at byte 20 of the run, its payload of two bytes at byte 3 of the room
abbrev reply₀ : DssFrame
reply₀ = record {
  header = record { length = 8; dss_type = Reply; flags = record { chained = true; continue_on_error = false; same_correlation = false }; correlation_id = 7 };
  payload_at = 3;
  payload_len = 2;
  segments = 1;
  at = 20;
  end = 28;
}

-- its words, twice in a row of twenty-one; what they say; and the words of a refusal and of its record beside them
example : (cut record_len 2 (splice (replicate 21 9) 0 (joined record_words (reply₀ ∷ reply₀ ∷ []))) ≡ (0 ∷ 3 ∷ 8 ∷ 0x42 ∷ 7 ∷ 2 ∷ 1 ∷ 0 ∷ 20 ∷ 28 ∷ []) ∷ (0 ∷ 3 ∷ 8 ∷ 0x42 ∷ 7 ∷ 2 ∷ 1 ∷ 0 ∷ 20 ∷ 28 ∷ []) ∷ [])
    × (type_at 0x42 0 ≡ Ok Reply)
    × (flags_of 0x42 ≡ reply₀.header.flags)
    × (refusal_words (record { why = InlineTooShort 3 0x2412; place = 9 }) ≡ 5 ∷ 9 ∷ 3 ∷ 4 ∷ 0x2412 ∷ 0 ∷ 0 ∷ 0 ∷ [])
    × (refusal_said 5 3 4 0x2412 ≡ InlineTooShort 3 0x2412)
    × (refused_words (record { why = InvalidMagic 0; place = 6 }) 6 20 ≡ 2 ∷ 6 ∷ 0 ∷ 0 ∷ 0 ∷ 0 ∷ 0 ∷ 0 ∷ 6 ∷ 20 ∷ [])
unfolding cut joined splice
example = (refl, refl, refl, refl, refl, refl)
