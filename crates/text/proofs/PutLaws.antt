-- The laws of text put into a lent room: a piece and what is left behind it, up to the whole text.
use Prim.Native.Nat.{ℕ, zero, suc, ◌+◌, ◌/◌, ◌%◌, ◌^◌, ◌≤◌, ◌<◌}
use native.Mathlib.Numerals.{add-one}
use native.Mathlib.Omega.{arith}
use mathlib.Core.Path.{◌≡◌, refl, sym, ap, ap₂, ◌∙◌}
use mathlib.Core.List.{List, [], ◌∷◌, ◌++◌}
use lib.Dec.{ltb}
use lib.ListN.{length, get_or, set, drop, length-append}
use lib.Seq.{sets, length-sets, drop-cons, drop-length}
use borrow.Author.Tests.{lt-ltb, le-ltb, ltb-true, ltb-false}
use Rattle.wire.proofs.WireLaws.{by, pick_yes, pick_no}
use Rattle.answer.specs.Rooms.{capped}
use Rattle.text.specs.Texts.{together, decimal}
use Rattle.text.proofs.TextLaws.{joined_more, joined_one, decimal_one, decimal_more}
use Rattle.text.specs.inner.Puts.{Puts}

-- ---- marks

pub capped_low : (n : ℕ) → n < 2 ^ 64 → capped n ≡ n
capped_low n h = pick_yes _ _ (lt-ltb n (2 ^ 64) h)

pub capped_high : (n : ℕ) → 2 ^ 64 ≤ n → capped n ≡ 18446744073709551615
capped_high n h = pick_no _ _ (le-ltb n (2 ^ 64) h)

pub capped_small : (n : ℕ) → capped n < 2 ^ 64
capped_small n =
    by (ltb n (2 ^ 64)) (λ t. let e = capped_low n (ltb-true n (2 ^ 64) t) in let h : n < 2 ^ 64 = ltb-true n (2 ^ 64) t in omega arith)
    (λ t. let e = capped_high n (ltb-false n (2 ^ 64) t) in omega arith)

capped_add : (a b : ℕ) → capped (capped a + b) ≡ capped (a + b)
capped_add a b =
    by (ltb a (2 ^ 64)) (λ t. ap (λ (n : ℕ). capped (n + b)) (capped_low a (ltb-true a (2 ^ 64) t)))
    (λ t. let h : 2 ^ 64 ≤ a = ltb-false a (2 ^ 64) t in high h)
  where
    high : 2 ^ 64 ≤ a → capped (capped a + b) ≡ capped (a + b)
    high h =
        let e : capped a ≡ 18446744073709551615 = capped_high a h in
        ap (λ (n : ℕ). capped (n + b)) e
        ∙ by (ltb (18446744073709551615 + b) (2 ^ 64))
        (λ t. let k : 18446744073709551615 + b < 2 ^ 64 = ltb-true _ _ t in
        let z : 18446744073709551615 + b ≡ 18446744073709551615 = omega arith in
        capped_low (18446744073709551615 + b) k ∙ z ∙ sym (capped_high (a + b) (omega arith)))
        (λ t. let k : 2 ^ 64 ≤ 18446744073709551615 + b = ltb-false _ _ t in capped_high _ k ∙ sym (capped_high (a + b) (omega arith)))

-- ---- stores

set_beyond : (l : List ℕ) (i a : ℕ) → length l ≤ i → set l i a ≡ l
set_beyond [] i a h = refl
set_beyond (x ∷ l) zero a h = absurd (omega arith)
set_beyond (x ∷ l) (suc i) a h = ap (λ (k : List ℕ). x ∷ k) (set_beyond l i a (omega arith))

-- a room that ends before
pub sets_beyond : (v l : List ℕ) (i : ℕ) → length l ≤ i → sets l i v ≡ l
sets_beyond [] l i h = refl
sets_beyond (a ∷ v) l i h = ap (λ (k : List ℕ). sets k (suc i) v) (set_beyond l i a h) ∙ sets_beyond v l (suc i) (omega arith)

sets_append : (x y l : List ℕ) (i : ℕ) → sets l i (x ++ y) ≡ sets (sets l i x) (i + length x) y
sets_append [] y l i = let z : i ≡ i + 0 = omega arith in ap (λ (k : ℕ). sets l k y) z
sets_append (a ∷ x) y l i =
    let z : suc i + length x ≡ i + suc (length x) = omega arith in
    sets_append x y (set l i a) (suc i) ∙ ap (λ (k : ℕ). sets (sets (set l i a) (suc i) x) k y) z

sets_capped : (v l : List ℕ) (i : ℕ) → length l < 2 ^ 64 → sets l (capped i) v ≡ sets l i v
sets_capped v l i h =
    by (ltb i (2 ^ 64)) (λ t. ap (λ (k : ℕ). sets l k v) (capped_low i (ltb-true i (2 ^ 64) t)))
    (λ t. let k : 2 ^ 64 ≤ i = ltb-false i (2 ^ 64) t in
    ap (λ (k : ℕ). sets l k v) (capped_high i k) ∙ sets_beyond v l 18446744073709551615 (omega arith) ∙ sym (sets_beyond v l i (omega arith)))

-- ---- a text under way

-- `left` put into `room` from `at` on comes to what `whole` put into `start` from `from` on comes to
pub record Leads (whole start : List ℕ) (from : ℕ) (left room : List ℕ) (at : ℕ) : Type 0 where
  pub small : length room < 2 ^ 64
  pub mark : capped (at + length left) ≡ capped (from + length whole)
  pub room_is : sets room at left ≡ sets start from whole

pub leads_start : (whole room : List ℕ) (at : ℕ) → length room < 2 ^ 64 → Leads whole room at whole room at
leads_start whole room at h = record { small = h; mark = refl; room_is = refl }

-- what is left, in other words
pub leads_as : {whole start : List ℕ} {from : ℕ} {left same room : List ℕ} {at : ℕ} → left ≡ same → Leads whole start from left room at → Leads whole start from same room at
leads_as e w = rw e at w

module _ {whole start : List ℕ} {from : ℕ} {room : List ℕ} {at : ℕ} {r : ℕ} {after : List ℕ} where
  -- a piece was put, and there is more
  pub leads_on : (x y : List ℕ) → Leads whole start from (x ++ y) room at → Puts x room at r after → Leads whole start from y after r
  leads_on x y w p =
      let small : length after < 2 ^ 64 = omega (arith, w.small, ap length p.room_is, length-sets room at x) in
      let n : at + length (x ++ y) ≡ at + length x + length y = omega (arith, length-append x y) in
      record {
        small = small;
        mark = ap (λ (k : ℕ). capped (k + length y)) p.mark ∙ capped_add (at + length x) (length y) ∙ ap capped (sym n) ∙ w.mark;
        room_is =
            ap₂ (λ (l : List ℕ) (k : ℕ). sets l k y) p.room_is p.mark
            ∙ sets_capped y (sets room at x) (at + length x) (omega (arith, w.small, length-sets room at x))
            ∙ sym (sets_append x y room at)
            ∙ w.room_is;
      }

  -- the last piece was put
  pub leads_last : (x : List ℕ) → Leads whole start from x room at → Puts x room at r after → Puts whole start from r after
  leads_last x w p = record { mark = p.mark ∙ w.mark; room_is = p.room_is ∙ w.room_is }

-- nothing is left
pub leads_done : {whole start : List ℕ} {from : ℕ} {room : List ℕ} {at : ℕ} (left : List ℕ) → Leads whole start from left room at → left ≡ [] → at < 2 ^ 64 → Puts whole start from at room
leads_done {whole} {start} {from} {room} {at} left w e h =
    let z : at + length left ≡ at = omega (arith, ap length e) in
    record {
      mark = sym (capped_low at h) ∙ ap capped (sym z) ∙ w.mark;
      room_is = ap (sets room at) (sym e) ∙ w.room_is;
    }

-- the same of pieces that are joined
pub record TextPieces (whole start : List ℕ) (from : ℕ) (left : List (List ℕ)) (room : List ℕ) (at : ℕ) : Type 0 where
  pub leads : Leads whole start from (together left) room at

pub pieces_start : (xs : List (List ℕ)) (room : List ℕ) (at : ℕ) → length room < 2 ^ 64 → TextPieces (together xs) room at xs room at
pieces_start xs room at h = record { leads = leads_start (together xs) room at h }

module _ {whole start : List ℕ} {from : ℕ} {x room : List ℕ} {at : ℕ} {r : ℕ} {after : List ℕ} where
  pub piece_on : {xs : List (List ℕ)} → TextPieces whole start from (x ∷ xs) room at → Puts x room at r after → TextPieces whole start from xs after r
  piece_on {xs} w p = record { leads = leads_on x (together xs) (rw joined_more at w.leads) p }

  pub piece_last : TextPieces whole start from (x ∷ []) room at → Puts x room at r after → Puts whole start from r after
  piece_last w p = leads_last x (rw joined_one at w.leads) p

-- the room stays as long as it was
pub leads_length : {whole start : List ℕ} {from : ℕ} {left room : List ℕ} {at : ℕ} → Leads whole start from left room at → length room ≡ length start
leads_length {whole} {start} {from} {left} {room} {at} w = sym (length-sets room at left) ∙ ap length w.room_is ∙ length-sets start from whole

-- of two pieces
pub puts_two : (x y room : List ℕ) (at m : ℕ) (mid : List ℕ) (r : ℕ) (after : List ℕ) → length room < 2 ^ 64 → Puts x room at m mid → Puts y mid m r after → Puts (x ++ y) room at r after
puts_two x y room at m mid r after h p q = leads_last y (leads_on x y (leads_start (x ++ y) room at h) p) q

-- ---- a room that has room

pub puts_length : {text room : List ℕ} {at r : ℕ} {after : List ℕ} → Puts text room at r after → length after ≡ length room
puts_length {text} {room} {at} p = ap length p.room_is ∙ length-sets room at text

-- ---- a number in decimal

pub one_digit : {d : ℕ} {room : List ℕ} {at r : ℕ} {after : List ℕ} (n : ℕ) → n < 10 → d ≡ 48 + n % 10 → Puts (d ∷ []) room at r after → Puts (decimal n) room at r after
one_digit {d} n h e p = let z : decimal n ≡ d ∷ [] = decimal_one n h ∙ ap (λ (x : ℕ). x ∷ []) (sym e) in rw z p

pub more_digits : {d : ℕ} {room : List ℕ} {at m : ℕ} {mid : List ℕ} {r : ℕ} {after : List ℕ} (n tenth : ℕ) → 10 ≤ n → length room < 2 ^ 64 → d ≡ 48 + n % 10 → tenth ≡ n / 10
    → Puts (decimal tenth) room at m mid → Puts (d ∷ []) mid m r after → Puts (decimal n) room at r after
more_digits {d} {room} {at} {m} {mid} {r} {after} n tenth h k e f p q =
    let z : decimal n ≡ decimal tenth ++ (d ∷ []) =
    decimal_more n h ∙ ap₂ (λ (x y : ℕ). decimal x ++ (y ∷ [])) (sym f) (sym e) in
    rw z (puts_two (decimal tenth) (d ∷ []) room at m mid r after k p q)

-- ---- bytes one by one

module _ {whole start : List ℕ} {from : ℕ} {room : List ℕ} {at : ℕ} (words : List ℕ) (i : ℕ) where
  pub words_on : {r : ℕ} {after : List ℕ} → i < length words → Leads whole start from (drop i words) room at → Puts (get_or words i 0 ∷ []) room at r after → Leads whole start from (drop (i + 1) words) after r
  words_on h w p =
      let z : drop i words ≡ (get_or words i 0 ∷ []) ++ drop (i + 1) words = rw (add-one, drop-cons words i 0) in
      leads_on (get_or words i 0 ∷ []) (drop (i + 1) words) (rw z at w) p

  pub words_done : length words ≤ i → i ≤ length words → Leads whole start from (drop i words) room at → at < 2 ^ 64 → Puts whole start from at room
  words_done h k w l =
      let z : i ≡ length words = omega arith in
      leads_done (drop i words) w (ap (λ (n : ℕ). drop n words) z ∙ drop-length words) l

-- the room by its other name
pub puts_in : {words room : List ℕ} {at r : ℕ} {after same : List ℕ} → after ≡ same → Puts words room at r after → Puts words room at r same
puts_in e p = rw (← e) p
