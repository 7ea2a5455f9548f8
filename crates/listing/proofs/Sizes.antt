-- How long the lines of a list are: numbers below 100,000 have at most five digits.
use Prim.Native.Nat.{ℕ, suc, ◌+◌, ◌*◌, ◌/◌, ◌%◌, ◌≤◌, ◌<◌}
use native.Mathlib.Omega.{arith}
use mathlib.Core.Path.{◌≡◌, refl, ap, ◌∙◌}
use mathlib.Core.List.{List, [], ◌∷◌}
use lib.Dec.{ltb, leb}
use lib.ListN.{length, get_or, length-append}
use borrow.Author.Tests.{ltb-true, ltb-false, leb-true}
use Rattle.wire.proofs.WireLaws.{by}
use Rattle.answer.specs.Numbers.{number_of, values_of}
use Rattle.answer.specs.declared.Refused.{Refused}
use Rattle.text.specs.Texts.{text, together, decimal}
use Rattle.text.proofs.TextLaws.{joined_more, decimal_one, decimal_more}
use Rattle.dss_head.proofs.TypeLaws.{every_type}
use Rattle.dss_head.specs.declared.DssType.{DssType}
use Rattle.dss_head.specs.declared.DssHeader.{DssHeader}
use Rattle.lines.specs.Lines.{type_text, flags_text, numbered, frame_text, end_text, refused_text}

-- ---- digits

-- a number below b has at most k digits
abbrev Digits : ℕ → ℕ → Type 0
Digits b k = (n : ℕ) → n < b → length (decimal n) ≤ k

one_digit : Digits 10 1
one_digit n h = omega (arith, ap length (decimal_one n h))

one_more : (b k : ℕ) → Digits b k → Digits (10 * b) (suc k)
one_more b k d n h =
    by (ltb n 10) (λ t. omega (arith, ap length (decimal_one n (ltb-true n 10 t))))
    (λ t. omega (arith, ap length (decimal_more n (ltb-false n 10 t)), length-append (decimal (n / 10)) ((48 + n % 10) ∷ []), d (n / 10) (omega arith)))

two_digits : Digits 100 2
two_digits = one_more 10 1 one_digit

five_digits : Digits 100000 5
five_digits = one_more 10000 4 (one_more 1000 3 (one_more 100 2 two_digits))

-- ---- lines

joined_size : (x : List ℕ) (xs : List (List ℕ)) → length (together (x ∷ xs)) ≡ length x + length (together xs)
joined_size x xs = ap length (joined_more x xs) ∙ length-append x (together xs)

joined_none : length (together []) ≡ 0
unfolding together
joined_none = refl

type_size : (t : DssType) → length (type_text t) ≤ 13
type_size t = leb-true (length (type_text t)) 13 (every_type (λ (u : DssType). leb (length (type_text u)) 13) refl t)

module _ (first : ℕ) (h : DssHeader) (segments bytes : ℕ) where
  frame_is : frame_text first h segments bytes
      ≡ together
      (numbered "at " first
      ∷ text " " ∷ type_text h.dss_type
      ∷ text " " ∷ flags_text h.flags
      ∷ numbered " corr " h.correlation_id
      ∷ numbered " seg " segments
      ∷ numbered " bytes " bytes
      ∷ text "\n" ∷ [])
  unfolding frame_text
  frame_is = refl

  -- as long as "at 65530 communication ces corr 65535 seg 10922 bytes 65530\n"
  pub frame_size : first < 100000 → h.correlation_id < 100000 → segments < 100000 → bytes < 100000 → length (frame_text first h segments bytes) ≤ 60
  frame_size a b c d =
      rw frame_is
      (simp (joined_size, joined_none, length-append)
      (omega (arith, type_size h.dss_type, five_digits first a, five_digits h.correlation_id b, five_digits segments c, five_digits bytes d)))

module _ (position left : ℕ) where
  end_is : end_text position left ≡ together (numbered "end " position ∷ numbered " left " left ∷ text "\n" ∷ [])
  unfolding end_text
  end_is = refl

  pub end_size : position < 100000 → left < 100000 → length (end_text position left) ≤ 21
  end_size a b = rw end_is (simp (joined_size, joined_none, length-append) (omega (arith, five_digits position a, five_digits left b)))

module _ (r : Refused) where
  refused_is : refused_text r
      ≡ together
      (numbered "refused " (number_of r.why) ∷ numbered " at " r.place ∷ numbered " value " (get_or (values_of r.why) 0 0) ∷ text "\n" ∷ [])
  unfolding refused_text
  refused_is = refl

  pub refused_size : number_of r.why < 100 → r.place < 100000 → get_or (values_of r.why) 0 0 < 100000 → length (refused_text r) ≤ 32
  refused_size a b c =
      rw refused_is
      (simp (joined_size, joined_none, length-append)
      (omega (arith, two_digits (number_of r.why) a, five_digits r.place b, five_digits (get_or (values_of r.why) 0 0) c)))
