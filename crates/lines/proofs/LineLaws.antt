-- The lines put into a lent room piece by piece.
use Prim.Native.Nat.{ℕ, ◌^◌, ◌<◌}
use Prim.Native.Char.{Char, code}
use mathlib.Core.Path.{◌≡◌}
use mathlib.Core.Bool.{Bool, true, false}
use mathlib.Core.List.{List, [], ◌∷◌}
use lib.ListN.{length, get_or}
use Rattle.wire.specs.Bytes.{pick}
use Rattle.answer.specs.Numbers.{number_of, values_of}
use Rattle.answer.specs.declared.Refused.{Refused}
use Rattle.text.specs.Texts.{text}
use Rattle.text.specs.inner.Puts.{Puts}
use Rattle.text.proofs.PutLaws.{leads_start, leads_on, leads_last, pieces_start, piece_on, piece_last}
use Rattle.dss_head.specs.declared.DssType.{DssType}
use Rattle.dss_head.specs.declared.DssFlags.{DssFlags}
use Rattle.dss_head.specs.declared.DssHeader.{DssHeader}
use Rattle.lines.specs.Lines.{type_text, letter_of, flags_text, numbered, frame_text, end_text, refused_text}

-- a flag's letter, as it is chosen
letter_is : (set : Bool) (c : Char) (b : ℕ) → b ≡ pick set (code c) 45 → b ≡ letter_of set c
letter_is true c b e = e
letter_is false c b e = e

module _ {room : List ℕ} {from : ℕ} (h : length room < 2 ^ 64) {a : ℕ} {l : List ℕ} {b : ℕ} {m : List ℕ} {r : ℕ} {after : List ℕ} where
  pub put_flags_is : (f : DssFlags) {x y z : ℕ} → x ≡ pick f.chained 99 45 → y ≡ pick f.continue_on_error 101 45 → z ≡ pick f.same_correlation 115 45
      → Puts (x ∷ []) room from a l → Puts (y ∷ []) l a b m → Puts (z ∷ []) m b r after → Puts (flags_text f) room from r after
  put_flags_is f {x} {y} {z} i j k p q w =
      rw
      (← letter_is f.chained "c" x i, ← letter_is f.continue_on_error "e" y j, ← letter_is f.same_correlation "s" z k)
      (leads_last (z ∷ []) (leads_on (y ∷ []) (z ∷ []) (leads_on (x ∷ []) (y ∷ z ∷ []) (leads_start (x ∷ y ∷ z ∷ []) room from h) p) q) w)

  pub put_end_is : (position left : ℕ) → Puts (numbered "end " position) room from a l → Puts (numbered " left " left) l a b m → Puts (text "\n") m b r after
      → Puts (end_text position left) room from r after
  unfolding end_text
  put_end_is position left p q w =
      piece_last (piece_on (piece_on (pieces_start (numbered "end " position ∷ numbered " left " left ∷ text "\n" ∷ []) room from h) p) q) w

  pub put_refused_is : (x : Refused) (number value : ℕ) {k : ℕ} {n : List ℕ} → number ≡ number_of x.why → value ≡ get_or (values_of x.why) 0 0
      → Puts (numbered "refused " number) room from a l → Puts (numbered " at " x.place) l a b m → Puts (numbered " value " value) m b k n → Puts (text "\n") n k r after
      → Puts (refused_text x) room from r after
  unfolding refused_text
  put_refused_is x number value i j p q v w =
      piece_last
      (piece_on
      (piece_on
      (piece_on
      (pieces_start
      (numbered "refused " (number_of x.why) ∷ numbered " at " x.place ∷ numbered " value " (get_or (values_of x.why) 0 0) ∷ text "\n" ∷ [])
      room from h)
      (rw i at p))
      q)
      (rw j at v))
      w

-- a type's name
pub put_type_is : {room : List ℕ} {from r : ℕ} {after : List ℕ} (t u : DssType) → t ≡ u → Puts (type_text u) room from r after → Puts (type_text t) room from r after
put_type_is t u e p = rw e p

-- a frame's line: its nine pieces
module _ {room : List ℕ} {from : ℕ} (h : length room < 2 ^ 64) (first : ℕ) (head : DssHeader) (segments bytes : ℕ) {r : ℕ} {after : List ℕ} where
  pub put_frame_is : {a b c d e f g i : ℕ} {la lb lc ld le lf lg li : List ℕ}
      → Puts (numbered "at " first) room from a la → Puts (text " ") la a b lb → Puts (type_text head.dss_type) lb b c lc → Puts (text " ") lc c d ld
      → Puts (flags_text head.flags) ld d e le → Puts (numbered " corr " head.correlation_id) le e f lf → Puts (numbered " seg " segments) lf f g lg
      → Puts (numbered " bytes " bytes) lg g i li → Puts (text "\n") li i r after
      → Puts (frame_text first head segments bytes) room from r after
  unfolding frame_text
  put_frame_is p₁ p₂ p₃ p₄ p₅ p₆ p₇ p₈ p₉ =
      piece_last
      (piece_on
      (piece_on
      (piece_on
      (piece_on
      (piece_on
      (piece_on
      (piece_on
      (piece_on
      (pieces_start
      (numbered "at " first
      ∷ text " " ∷ type_text head.dss_type
      ∷ text " " ∷ flags_text head.flags
      ∷ numbered " corr " head.correlation_id
      ∷ numbered " seg " segments
      ∷ numbered " bytes " bytes
      ∷ text "\n" ∷ [])
      room from h)
      p₁)
      p₂)
      p₃)
      p₄)
      p₅)
      p₆)
      p₇)
      p₈)
      p₉
