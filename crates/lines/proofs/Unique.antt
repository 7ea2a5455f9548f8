-- Any two outcomes that a contract of this crate allows are equal: the mark, every byte of the room, and that it is the room that was
-- lent. Each statement names the contract, and doesn't write it again. And one outcome is allowed, whatever is given.
use Prim.Native.Nat.{ℕ}
use mathlib.Core.List.{List}
use contract.Lifetimes.{Lfts}
use denote.Ref.{MutBor, at_last}
use Rattle.answer.specs.declared.Refused.{Refused}
use Rattle.dss_head.specs.declared.DssType.{DssType}
use Rattle.dss_head.specs.declared.DssFlags.{DssFlags}
use Rattle.dss_measure.specs.declared.FrameMeasure.{FrameMeasure}
use Rattle.text.specs.declared.Text.{Text}
use Rattle.text.proofs.Unique.{SameText, puts_text_one, text_with, puts_text_some}
use Rattle.lines.specs.Lines.{type_text, flags_text, frame_text, refused_text, end_text}
use Rattle.lines.proofs.put_type.Reads as put_type
use Rattle.lines.proofs.put_flags.Reads as put_flags
use Rattle.lines.proofs.put_frame.Reads as put_frame
use Rattle.lines.proofs.put_refused.Reads as Put_refused
use Rattle.lines.proofs.put_end.Reads as put_end

module _ (κs : Lfts 2) (self : MutBor Text) where
  -- the text with so many bytes put behind it
  abbrev behind : List ℕ → MutBor Text
  behind words = at_last self (text_with self.now words)

  module _ (x : DssType) where
    pub put_type_one : (t t' : Text) → put_type.Post κs (self, (x, tt)) tt (at_last self t, (x, tt)) → put_type.Post κs (self, (x, tt)) tt (at_last self t', (x, tt)) → SameText t t'
    put_type_one t t' p q = puts_text_one t t' p q

    pub put_type_some : put_type.Post κs (self, (x, tt)) tt (behind (type_text x), (x, tt))
    put_type_some = puts_text_some (type_text x) self.now

  module _ (f : DssFlags) where
    pub put_flags_one : (t t' : Text) → put_flags.Post κs (self, (f, tt)) tt (at_last self t, (f, tt)) → put_flags.Post κs (self, (f, tt)) tt (at_last self t', (f, tt)) → SameText t t'
    put_flags_one t t' p q = puts_text_one t t' p q

    pub put_flags_some : put_flags.Post κs (self, (f, tt)) tt (behind (flags_text f), (f, tt))
    put_flags_some = puts_text_some (flags_text f) self.now

  module _ (p : ℕ) (m : FrameMeasure) where
    pub put_frame_one : (t t' : Text) → put_frame.Post κs (self, (p, (m, tt))) tt (at_last self t, (p, (m, tt))) → put_frame.Post κs (self, (p, (m, tt))) tt (at_last self t', (p, (m, tt))) → SameText t t'
    put_frame_one t t' p q = puts_text_one t t' p q

    pub put_frame_some : put_frame.Post κs (self, (p, (m, tt))) tt (behind (frame_text p m.header m.segments m.payload_len), (p, (m, tt)))
    put_frame_some = puts_text_some (frame_text p m.header m.segments m.payload_len) self.now

  module _ (x : Refused) where
    pub put_refused_one : (t t' : Text) → Put_refused.Post κs (self, (x, tt)) tt (at_last self t, (x, tt)) → Put_refused.Post κs (self, (x, tt)) tt (at_last self t', (x, tt)) → SameText t t'
    put_refused_one t t' p q = puts_text_one t t' p q

    pub put_refused_some : Put_refused.Post κs (self, (x, tt)) tt (behind (refused_text x), (x, tt))
    put_refused_some = puts_text_some (refused_text x) self.now

  module _ (p n : ℕ) where
    pub put_end_one : (t t' : Text) → put_end.Post κs (self, (p, (n, tt))) tt (at_last self t, (p, (n, tt))) → put_end.Post κs (self, (p, (n, tt))) tt (at_last self t', (p, (n, tt))) → SameText t t'
    put_end_one t t' p q = puts_text_one t t' p q

    pub put_end_some : put_end.Post κs (self, (p, (n, tt))) tt (behind (end_text p n), (p, (n, tt)))
    put_end_some = puts_text_some (end_text p n) self.now
