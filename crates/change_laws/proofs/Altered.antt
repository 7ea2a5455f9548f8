-- "We build a request once a site and alter one value for each extension block": to alter one value of what was built is to build it
-- with the other value. As a statement over any function that changes, and impostors that fail it.
use Prim.Native.Nat.{ℕ, ◌^◌, ◌<◌}
use native.Mathlib.Omega.{arith}
use mathlib.Core.Path.{◌≡◌, refl, sym, ◌∙◌, ap}
use mathlib.Core.Bool.{Bool, false, not}
use mathlib.Core.List.{List, [], ◌∷◌, ◌++◌, append_assoc}
use borrow.Author.Tests.{eqb-false}
use lib.Dec.{eqb}
use lib.ListN.{length, get_or}
use Rattle.wire.specs.Bytes.{pick, and, or, spelled, last}
use Rattle.ddm_length.specs.Lengths.{marshaled, measured}
use Rattle.ddm_builder.specs.Built.{built, length_bytes, built_all, Fit}
use Rattle.ddm_object.specs.Objects.{Object, parsed, parameters, parameters_fuel}
use Rattle.ddm_object.proofs.ObjectReads.{made}
use Rattle.ddm_laws.proofs.LayoutLaws.{built_reads}
use Rattle.ddm_laws.proofs.BuiltLists.{objects_of, joined_pieces}
use Rattle.ddm_change.specs.Change.{fault_from, first_from, Change, changed, faulty, lacking, change_of}
use Rattle.change_laws.proofs.SoundData.{LacksParam}
use Rattle.change_laws.proofs.ChangedList.{change_there}

abbrev pub Changer : Type 0
Changer = List ℕ → ℕ → List ℕ → Change

-- none of the pairs has the code point
abbrev pub WithoutParam : ℕ → List (ℕ × List ℕ) → Type 0
WithoutParam cp [] = Unit {0}
WithoutParam cp (x ∷ l) = (¬ (x.0 ≡ cp)) × WithoutParam cp l

-- what was built of a list of code points with data, changed at the first with `cp`, is what is built of that list with `new` there
abbrev pub Alters : Changer → Type 0
Alters f = (before after : List (ℕ × List ℕ)) (cp : ℕ) (old new : List ℕ) → Fit before → Fit after → cp < 65536 → length old < 2 ^ 63 → WithoutParam cp before
    → f (built_all (before ++ ((cp, old) ∷ after))) cp new ≡ changed (built_all (before ++ ((cp, new) ∷ after)))

-- ---- ours does

joined_append : (l m : List (ℕ × List ℕ)) → built_all (l ++ m) ≡ built_all l ++ built_all m
joined_append [] m = refl
joined_append (x ∷ l) m = ap (λ (b : List ℕ). built x.0 x.1 ++ b) (joined_append l m) ∙ sym (append_assoc (built x.0 x.1) (built_all l) (built_all m))

lacks_of : (cp : ℕ) (l : List (ℕ × List ℕ)) → WithoutParam cp l → LacksParam cp (objects_of l)
lacks_of cp [] w = tt
lacks_of cp (x ∷ l) w = (w.0, lacks_of cp l w.1)

pub alters : Alters change_of
alters before after cp old new g k small few w =
    change_there cp new (record {
      head = built_all before;
      old = built cp old;
      rest = built_all after;
      before = objects_of before;
      one = made cp old (length (built cp old));
      after = objects_of after;
      bytes = joined_append before ((cp, old) ∷ after);
      list = refl;
      head_reads = joined_pieces before g;
      old_reads = built_reads cp old small few;
      rest_reads = joined_pieces after k;
      lacks = lacks_of cp before w;
      has = refl;
    })
    ∙ ap changed (sym (joined_append before ((cp, new) ∷ after)))

-- ---- impostors

-- two parameters with code point 0x2110 and one between them with 0x2414
abbrev pub sample : List ℕ → List (ℕ × List ℕ)
sample new = (0x2110, new) ∷ (0x2414, 9 ∷ []) ∷ (0x2110, 8 ∷ []) ∷ []

abbrev tells : Change → List ℕ
tells (changed b) = b
tells (faulty place) = 17 ∷ []
tells lacking = 11 ∷ []

-- what an impostor gives for the sample with 7 changed to 5, 6
abbrev given : Changer → List ℕ
given f = tells (f (built_all (sample (7 ∷ []))) 0x2110 (5 ∷ 6 ∷ []))

wanted : (f : Changer) → Alters f → given f ≡ built_all (sample (5 ∷ 6 ∷ []))
wanted f a = ap tells (a [] ((0x2414, 9 ∷ []) ∷ (0x2110, 8 ∷ []) ∷ []) 0x2110 (7 ∷ []) (5 ∷ 6 ∷ []) tt (omega arith, omega arith, (omega arith, omega arith, tt)) (omega arith) (omega arith) tt)

-- a byte that is another one
apart : (f : Changer) (i : ℕ) → eqb (get_or (given f) i 0) (get_or (built_all (sample (5 ∷ 6 ∷ []))) i 0) ≡ false → Alters f → ⊥
apart f i t a = eqb-false (get_or (given f) i 0) (get_or (built_all (sample (5 ∷ 6 ∷ []))) i 0) t (ap (λ (s : List ℕ). get_or s i 0) (wanted f a))

-- changes every such parameter
unfoldable pub every_of : List Object → ℕ → List ℕ → List ℕ
unfolding built
every_of [] cp new = []
every_of (o ∷ os) cp new = built o.code_point (pick (eqb o.code_point cp) new o.content) ++ every_of os cp new

unfoldable pub changes_all : Changer
unfolding every_of parameters
changes_all d cp new = changed (every_of (parameters d) cp new)

pub changes_all_lem : Alters changes_all → ⊥
unfolding changes_all every_of parameters parameters_fuel parsed measured marshaled spelled built length_bytes last
changes_all_lem = apart changes_all 12 refl

-- changes the last such parameter
abbrev pub has : List Object → ℕ → Bool
has [] cp = false
has (o ∷ os) cp = or (eqb o.code_point cp) (has os cp)

unfoldable pub last_of : List Object → ℕ → List ℕ → List ℕ
unfolding built
last_of [] cp new = []
last_of (o ∷ os) cp new = built o.code_point (pick (and (eqb o.code_point cp) (not (has os cp))) new o.content) ++ last_of os cp new

unfoldable pub changes_last : Changer
unfolding last_of parameters
changes_last d cp new = changed (last_of (parameters d) cp new)

pub changes_last_lem : Alters changes_last → ⊥
unfolding changes_last last_of parameters parameters_fuel parsed measured marshaled spelled built length_bytes last
changes_last_lem = apart changes_last 1 refl

-- pads the new bytes with two zeros
abbrev pub pads : Changer
pads d cp new = change_of d cp (new ++ (0 ∷ 0 ∷ []))

pub pads_not : Alters pads → ⊥
unfolding change_of fault_from first_from parameters parameters_fuel parsed measured marshaled spelled built length_bytes last
pads_not = apart pads 1 refl

-- leaves the data as they were; refuses everything; has one fixed answer
abbrev pub keeps : Changer
keeps d cp new = changed d

pub keeps_not : Alters keeps → ⊥
unfolding built length_bytes last
keeps_not = apart keeps 1 refl

abbrev pub refuses_all : Changer
refuses_all d cp new = faulty 0

pub refuses_not : Alters refuses_all → ⊥
unfolding built length_bytes last
refuses_not = apart refuses_all 0 refl

abbrev pub fixed : List ℕ → Changer
fixed b d cp new = changed b

-- the same parameter changed to two different values
pub fixed_not : (b : List ℕ) → Alters (fixed b) → ⊥
unfolding built length_bytes last
fixed_not b a =
    let one : b ≡ built 1 (5 ∷ []) ++ [] = ap tells (a [] [] 1 [] (5 ∷ []) tt tt (omega arith) (omega arith) tt) in
    let two : b ≡ built 1 (6 ∷ []) ++ [] = ap tells (a [] [] 1 [] (6 ∷ []) tt tt (omega arith) (omega arith) tt) in
    omega (arith, ap (λ (s : List ℕ). get_or s 4 0) (sym one ∙ two))
