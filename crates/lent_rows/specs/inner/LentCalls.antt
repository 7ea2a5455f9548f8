-- What a call that is lent two things may answer, and leave in them: x' where x was, y' where y was.
use Rattle.std.specs.Prelude.{◌≡◌}
use denote.Ref.{MutBor}
use denote.Param.Members.{Once}

pub record ReturnsAtBoth {F A B R : Type 0} (g : Once F (MutBor A × (MutBor B × Unit {0})) (R × (MutBor A × (MutBor B × Unit {0})))) (f : F) (x : A) (y : B) (r : R) (x' : A) (y' : B) : Type 0 where
  pub first : MutBor A
  pub first_shows : first.now ≡ x
  pub second : MutBor B
  pub second_shows : second.now ≡ y
  pub first_left : MutBor A
  pub second_left : MutBor B
  pub met : g.post f (first, (second, tt)) (r, (first_left, (second_left, tt)))
  pub first_leaves : first_left.now ≡ x'
  pub second_leaves : second_left.now ≡ y'
