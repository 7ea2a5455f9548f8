-- What an object built parameter by parameter has as its data: those parameters, one behind the other.
use Rattle.std.specs.Prelude.{Result, Ok, Err}
use Prim.Native.Nat.{ℕ, ◌+◌, ◌-◌, ◌≤◌}
use native.Mathlib.Omega.{arith}
use mathlib.Core.Path.{◌≡◌, refl, sym, ap, ap₂, ◌∙◌}
use mathlib.Core.List.{List, [], ◌∷◌, ◌++◌, append_assoc, append-nil}
use borrow.Author.Tests.{leb-true}
use lib.Dec.{leb}
use lib.ListN.{length, take, drop, length-append}
use lib.Seq.{take_at, length-take-le}
use Rattle.wire.specs.Bytes.{splice}
use Rattle.wire.proofs.WireLaws.{picked}
use Rattle.wire.proofs.Splicing.{laid_fits}
use Rattle.answer.specs.Rooms.{room_for}
use Rattle.ddm_builder.specs.Built.{built, built_all}
use Rattle.ddm_builder.specs.Builder.{added_by, Adds}
use Rattle.ddm_builder.specs.declared.DdmBuilder.{DdmBuilder}
use Rattle.demands_ddm.specs.ReadingBack.{Added, none, more}
use Rattle.answer.specs.declared.Refused.{Refused}

pub joined_append : (l m : List (ℕ × List ℕ)) → built_all (l ++ m) ≡ built_all l ++ built_all m
joined_append [] m = refl
joined_append (x ∷ l) m = ap (λ (b : List ℕ). built x.0 x.1 ++ b) (joined_append l m) ∙ sym (append_assoc (built x.0 x.1) (built_all l) (built_all m))

-- what an addition that is answered 0 does: there was room, and the state and the room are so
record AddedOne (b : DdmBuilder) (bytes now : List ℕ) (next : DdmBuilder) (after : List ℕ) : Type 0 where
  fits : b.fill + length bytes ≤ length now
  state : next ≡ record { code_point = b.code_point; fill = b.fill + length bytes }
  room_is : after ≡ splice now b.fill bytes

added_one : (b : DdmBuilder) (bytes now : List ℕ) (next : DdmBuilder) (after : List ℕ) → Adds b bytes now (Ok next) after → AddedOne b bytes now next after
added_one b bytes now next after p = go (room_for b.fill (length now) (length bytes)) refl p.answers
  where
    fit : room_for b.fill (length now) (length bytes) ≡ Ok tt → b.fill + length bytes ≤ length now
    fit e =
        picked (leb b.fill (length now)) e
        (λ t k. picked (leb (length bytes) (length now - b.fill)) k
        (λ u _. omega (arith, leb-true b.fill (length now) t, leb-true (length bytes) (length now - b.fill) u))
        (λ u j. let z : ◌≡◌ {A = ℕ} 0 1 = cc in absurd (omega arith)))
        (λ t k. let z : ◌≡◌ {A = ℕ} 0 1 = cc in absurd (omega arith))

    go : (x : Result (Unit {0}) Refused) → room_for b.fill (length now) (length bytes) ≡ x → Ok next ≡ added_by b (length bytes) x → AddedOne b bytes now next after
    go (Ok tt) e q =
        record {
          fits = fit e;
          state = cc;
          room_is = p.room_is ∙ laid_fits now b.fill bytes (fit e);
        }
    go (Err r) e q = absurd (let z : ◌≡◌ {A = ℕ} 0 1 = cc in omega arith)

-- what the builder then has: its code point, and in the filled part of the room the parameters
pub record FilledRequest (cp : ℕ) (l : List (ℕ × List ℕ)) (b : DdmBuilder) (now : List ℕ) : Type 0 where
  pub code_point : b.code_point ≡ cp
  pub inside : b.fill ≤ length now
  pub filled : take b.fill now ≡ built_all l

pub added_filled : {cp : ℕ} {room : List ℕ} {l : List (ℕ × List ℕ)} {b : DdmBuilder} {now : List ℕ} → Added cp room l b now → FilledRequest cp l b now
unfolding splice
added_filled none = record { code_point = refl; inside = omega arith; filled = refl }
added_filled {cp} {room} (more {l = l} {b = b} {now = now} a c d next after p) = go (added_filled a) (added_one b (built c d) now next after p)
  where
    go : FilledRequest cp l b now → AddedOne b (built c d) now next after → FilledRequest cp (l ++ ((c, d) ∷ [])) next after
    go f o =
        let n : ℕ = b.fill + length (built c d) in
        let fill : next.fill ≡ n = ap (λ (x : DdmBuilder). x.fill) o.state in
        let front : List ℕ = take b.fill now ++ built c d in
        let l₀ : length (take b.fill now) ≡ b.fill = length-take-le b.fill now f.inside in
        let l₁ : length front ≡ n = length-append (take b.fill now) (built c d) ∙ omega arith in
        let w : after ≡ front ++ drop n now = o.room_is ∙ sym (append_assoc (take b.fill now) (built c d) (drop n now)) in
        record {
          code_point = ap (λ (x : DdmBuilder). x.code_point) o.state ∙ f.code_point;
          inside = omega (arith, ap length w, length-append front (drop n now));
          filled =
              ap₂ (λ (m : ℕ) (x : List ℕ). take m x) fill w
              ∙ take_at front (drop n now) n l₁
              ∙ ap₂ (λ (x y : List ℕ). x ++ y) f.filled (sym (append-nil (built c d)))
              ∙ sym (joined_append l ((c, d) ∷ []));
        }
