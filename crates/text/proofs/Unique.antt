-- Any two outcomes that a contract of this crate allows are equal: the mark, every byte of the room, and that it is the room that was
-- lent. Each statement names the contract, and doesn't write it again. And one outcome is allowed, whatever is given.
use Prim.Native.Nat.{ℕ, ◌+◌}
use mathlib.Core.Path.{◌≡◌, refl, sym, ◌∙◌}
use mathlib.Core.List.{List, [], ◌∷◌, ◌++◌}
use lib.ListN.{length}
use lib.Seq.{sets}
use contract.Lifetimes.{Lfts}
use denote.Ref.{Bor, MutBor, at_last}
use Rattle.answer.specs.Rooms.{capped}
use Rattle.text.specs.Texts.{decimal}
use Rattle.text.specs.declared.Text.{Text}
use Rattle.text.specs.inner.Puts.{Puts}
use Rattle.text.specs.inner.PutsText.{PutsText}
use Rattle.text.proofs.PutLaws.{capped_small}
use Rattle.text.proofs.Text.put_byte.Reads as put_byte
use Rattle.text.proofs.Text.put_text.Reads as put_text
use Rattle.text.proofs.Text.put_decimal.Reads as put_decimal
use Rattle.text.proofs.Text.put_number.Reads as put_number

-- what every contract comes to
pub puts_one : {text room : List ℕ} {at : ℕ} (r r' : ℕ) (l l' : List ℕ) → Puts text room at r l → Puts text room at r' l' → (r ≡ r') × (l ≡ l')
puts_one r r' l l' p q = (p.mark ∙ sym q.mark, p.room_is ∙ sym q.room_is)

-- two texts on their way that show the same
abbrev pub SameText : Text → Text → Type 0
SameText t t' = (t.at ≡ t'.at) × (t.room.now ≡ t'.room.now) × (t.room.ghost_name ≡ t'.room.ghost_name)

pub puts_text_one : {words : List ℕ} {before : Text} (t t' : Text) → PutsText words before t → PutsText words before t' → SameText t t'
puts_text_one t t' p q =
    let e = puts_one _ _ _ _ p.puts q.puts in
    (e.0, e.1, p.same_room ∙ sym q.same_room)

-- the text with so many bytes put
abbrev pub text_with : Text → List ℕ → Text
text_with t words =
    record { room = at_last t.room (sets t.room.now t.at words); at = capped (t.at + length words); fits = capped_small (t.at + length words) }

pub puts_text_some : (words : List ℕ) (t : Text) → PutsText words t (text_with t words)
puts_text_some words t = record { puts = record { mark = refl; room_is = refl }; same_room = refl }

module _ (κs : Lfts 2) (self : MutBor Text) where
  module _ (b : ℕ) where
    pub put_byte_one : (t t' : Text) → put_byte.Post κs (self, (b, tt)) tt (at_last self t, (b, tt))
        → put_byte.Post κs (self, (b, tt)) tt (at_last self t', (b, tt)) → SameText t t'
    put_byte_one t t' p q = puts_text_one t t' p q

    pub put_byte_some : put_byte.Post κs (self, (b, tt)) tt (at_last self (text_with self.now (b ∷ [])), (b, tt))
    put_byte_some = puts_text_some (b ∷ []) self.now

  module _ (n : ℕ) where
    pub put_decimal_one : (t t' : Text) → put_decimal.Post κs (self, (n, tt)) tt (at_last self t, (n, tt))
        → put_decimal.Post κs (self, (n, tt)) tt (at_last self t', (n, tt)) → SameText t t'
    put_decimal_one t t' p q = puts_text_one t t' p q

    pub put_decimal_some : put_decimal.Post κs (self, (n, tt)) tt (at_last self (text_with self.now (decimal n)), (n, tt))
    put_decimal_some = puts_text_some (decimal n) self.now

module _ (κs : Lfts 3) (self : MutBor Text) (words : Bor (List ℕ)) where
  pub put_text_one : (t t' : Text) → put_text.Post κs (self, (words, tt)) tt (at_last self t, (words, tt))
      → put_text.Post κs (self, (words, tt)) tt (at_last self t', (words, tt)) → SameText t t'
  put_text_one t t' p q = puts_text_one t t' p q

  pub put_text_some : put_text.Post κs (self, (words, tt)) tt (at_last self (text_with self.now words.now), (words, tt))
  put_text_some = puts_text_some words.now self.now

  module _ (n : ℕ) where
    pub put_number_one : (t t' : Text) → put_number.Post κs (self, (words, (n, tt))) tt (at_last self t, (words, (n, tt)))
        → put_number.Post κs (self, (words, (n, tt))) tt (at_last self t', (words, (n, tt))) → SameText t t'
    put_number_one t t' p q = puts_text_one t t' p q

    pub put_number_some : put_number.Post κs (self, (words, (n, tt))) tt (at_last self (text_with self.now (words.now ++ decimal n)), (words, (n, tt)))
    put_number_some = puts_text_some (words.now ++ decimal n) self.now
