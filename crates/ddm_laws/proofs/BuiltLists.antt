-- Objects one behind the other.
use Prim.Native.Nat.{ℕ, ◌+◌}
use native.Mathlib.Omega.{arith}
use mathlib.Core.Path.{◌≡◌, refl, sym, ◌∙◌, ap, ap₂}
use mathlib.Core.List.{List, [], ◌∷◌, ◌++◌, map}
use lib.ListN.{length, length-append}
use Rattle.ddm_length.specs.Lengths.{measured}
use Rattle.ddm_builder.specs.Built.{built, built_all, Fit}
use Rattle.ddm_object.specs.Objects.{Object, objects, and_more, parsed, all_objects, parameters}
use Rattle.ddm_object.proofs.ObjectReads.{made, Reads, past}
use Rattle.ddm_object.proofs.ParamWalks.{Walks, stop, reads_step, walks_parameters}
use Rattle.ddm_object.specs.inner.Walked.{all_from}
use Rattle.ddm_object.proofs.AllWalks.{all_from_lem, all_short, all_step}
use Rattle.ddm_laws.proofs.LayoutLaws.{built_reads}

pub data BuiltPieces : List ℕ → List Object → Type 0 where
  none : BuiltPieces [] []
  more : {p s : List ℕ} {o : Object} {os : List Object} → Reads p o → BuiltPieces s os → BuiltPieces (p ++ s) (o ∷ os)

pieces_walks : {s : List ℕ} {os : List Object} → BuiltPieces s os → Walks s os
unfolding parsed measured
pieces_walks none = stop (λ place. (_, refl))
pieces_walks (more r ps) = reads_step r (pieces_walks ps)

pub pieces_parameters : {s : List ℕ} {os : List Object} → BuiltPieces s os → parameters s ≡ os
pieces_parameters ps = walks_parameters (pieces_walks ps)

pieces_all : {s : List ℕ} {os : List Object} → BuiltPieces s os → (place : ℕ) → all_from s place ≡ objects os
pieces_all none place = all_short [] place (omega arith)
pieces_all (more {p = p} {s = s} {o = o} r ps) place =
    all_step (p ++ s) place o (r.back s place)
    ∙ ap (and_more o) (ap (λ (l : List ℕ). all_from l (place + o.consumed)) (past r s) ∙ pieces_all ps (place + o.consumed))

pub pieces_objects : {s : List ℕ} {os : List Object} → BuiltPieces s os → all_objects s ≡ objects os
pieces_objects {s} ps = all_from_lem s ∙ pieces_all ps 0

-- how far a list of objects reaches
abbrev pub reached : List Object → ℕ
reached [] = 0
reached (o ∷ os) = o.consumed + reached os

pub pieces_reach : {s : List ℕ} {os : List Object} → BuiltPieces s os → reached os ≡ length s
pieces_reach none = refl
pieces_reach (more {p = p} {s = s} r ps) = ap₂ (λ (a b : ℕ). a + b) r.whole (pieces_reach ps) ∙ sym (length-append p s)

abbrev pub objects_of : List (ℕ × List ℕ) → List Object
objects_of [] = []
objects_of (x ∷ l) = made x.0 x.1 (length (built x.0 x.1)) ∷ objects_of l

pub joined_pieces : (l : List (ℕ × List ℕ)) → Fit l → BuiltPieces (built_all l) (objects_of l)
joined_pieces [] g = none
joined_pieces (x ∷ l) g = more (built_reads x.0 x.1 g.0 g.1) (joined_pieces l g.2)

module _ (l : List (ℕ × List ℕ)) (g : Fit l) where
  pub parameters_joined : parameters (built_all l) ≡ objects_of l
  parameters_joined = pieces_parameters (joined_pieces l g)

  pub objects_joined : all_objects (built_all l) ≡ objects (objects_of l)
  objects_joined = pieces_objects (joined_pieces l g)

  -- and the walk ends at the last byte
  pub reached_joined : reached (parameters (built_all l)) ≡ length (built_all l)
  reached_joined = ap reached parameters_joined ∙ pieces_reach (joined_pieces l g)

abbrev pub pairs_of : List Object → List (ℕ × List ℕ)
pairs_of [] = []
pairs_of (o ∷ os) = (o.code_point, o.content) ∷ pairs_of os

pub pairs_map : (os : List Object) → map (λ (o : Object). (o.code_point, o.content)) os ≡ pairs_of os
pairs_map [] = refl
pairs_map (o ∷ os) = ap (λ m. (o.code_point, o.content) ∷ m) (pairs_map os)

pub pairs_objects : (l : List (ℕ × List ℕ)) → pairs_of (objects_of l) ≡ l
pairs_objects [] = refl
pairs_objects (x ∷ l) = ap (λ m. x ∷ m) (pairs_objects l)

-- the bytes say what was built
pub joined_injective : (l m : List (ℕ × List ℕ)) → Fit l → Fit m → built_all l ≡ built_all m → l ≡ m
joined_injective l m g k e =
    sym (pairs_objects l) ∙ ap pairs_of (sym (parameters_joined l g) ∙ ap parameters e ∙ parameters_joined m k) ∙ pairs_objects m

pub parameters_pairs : (l : List (ℕ × List ℕ)) → Fit l → pairs_of (parameters (built_all l)) ≡ l
parameters_pairs l g = ap pairs_of (parameters_joined l g) ∙ pairs_objects l
