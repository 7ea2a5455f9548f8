-- Any two outcomes that a contract of this crate allows are equal. Each statement names the contract.
use Prim.Native.Nat.{ℕ}
use mathlib.Core.Bool.{Bool}
use mathlib.Core.Path.{◌≡◌, sym, ◌∙◌}
use mathlib.Core.List.{List}
use contract.Lifetimes.{Lfts}
use denote.Ref.{Bor, MutBor, at_last}
use Rattle.wire.proofs.byte_at.Reads as byte_at
use Rattle.wire.proofs.u16_of.Reads as u16_of
use Rattle.wire.proofs.is_marker.Reads as is_marker
use Rattle.wire.proofs.u16_at.Reads as u16_at
use Rattle.wire.proofs.put_u16.Reads as put_u16
use Rattle.wire.proofs.copy.Reads as copy
use Rattle.wire.proofs.lay_at.Reads as Lay_at

pub byte_at_one : (κs : Lfts 1) (s : Bor (List ℕ)) (at r r' : ℕ) → byte_at.Post κs (s, (at, tt)) r (s, (at, tt)) → byte_at.Post κs (s, (at, tt)) r' (s, (at, tt)) → r ≡ r'
byte_at_one κs s at r r' p q = p ∙ sym q

pub is_marker_one : (κs : Lfts 0) (n : ℕ) (r r' : Bool) → is_marker.Post κs (n, tt) r (n, tt) → is_marker.Post κs (n, tt) r' (n, tt) → r ≡ r'
is_marker_one κs n r r' p q = p ∙ sym q

pub u16_of_one : (κs : Lfts 0) (a b r r' : ℕ) → u16_of.Post κs (a, (b, tt)) r (a, (b, tt)) → u16_of.Post κs (a, (b, tt)) r' (a, (b, tt)) → r ≡ r'
u16_of_one κs a b r r' p q = p ∙ sym q

pub u16_at_one : (κs : Lfts 1) (s : Bor (List ℕ)) (at r r' : ℕ) → u16_at.Post κs (s, (at, tt)) r (s, (at, tt)) → u16_at.Post κs (s, (at, tt)) r' (s, (at, tt)) → r ≡ r'
u16_at_one κs s at r r' p q = p ∙ sym q

pub put_u16_one : (κs : Lfts 1) (room : MutBor (List ℕ)) (n : ℕ) (r r' : Unit {0}) (l l' : List ℕ)
    → put_u16.Post κs (room, (n, tt)) r (at_last room l, (n, tt)) → put_u16.Post κs (room, (n, tt)) r' (at_last room l', (n, tt)) → l ≡ l'
put_u16_one κs room n r r' l l' p q = p ∙ sym q

pub lay_at_one : (κs : Lfts 2) (b : Bor (List ℕ)) (room : MutBor (List ℕ)) (at : ℕ) (r r' : Unit {0}) (l l' : List ℕ)
    → Lay_at.Post κs (b, (room, (at, tt))) r (b, (at_last room l, (at, tt))) → Lay_at.Post κs (b, (room, (at, tt))) r' (b, (at_last room l', (at, tt))) → l ≡ l'
lay_at_one κs b room at r r' l l' p q = p ∙ sym q

pub copy_one : (κs : Lfts 2) (b : Bor (List ℕ)) (room : MutBor (List ℕ)) (r r' : Unit {0}) (l l' : List ℕ)
    → copy.Post κs (b, (room, tt)) r (b, (at_last room l, tt)) → copy.Post κs (b, (room, tt)) r' (b, (at_last room l', tt)) → l ≡ l'
copy_one κs b room r r' l l' p q = p ∙ sym q
