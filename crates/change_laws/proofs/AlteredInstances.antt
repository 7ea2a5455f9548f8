-- The premises of the theorems can be met: an instance of each, over a request of two parameters whose first is changed. And impostors.
use Rattle.std.specs.Prelude.{Ok, Err}
use Prim.Native.Nat.{ℕ, ◌+◌, ◌%◌}
use native.Mathlib.Omega.{arith}
use mathlib.Core.Path.{◌≡◌, refl, ap}
use mathlib.Core.Bool.{true, false}
use mathlib.Core.List.{List, [], ◌∷◌, ◌++◌}
use borrow.Author.Tests.{eqb-false}
use lib.Dec.{eqb}
use lib.ListN.{length, take, replicate, get_or}
use Rattle.wire.specs.Bytes.{splice, laid}
use Rattle.answer.specs.Rooms.{no_room}
use Rattle.dss_head.specs.declared.DssType.TheVariants.{Request}
use Rattle.dss_frame.specs.Written.{Sent, written}
use Rattle.ddm_builder.specs.Built.{built, built_size, built_all}
use Rattle.ddm_object.specs.Objects.{parameters}
use Rattle.ddm_object.specs.ObjectCalls.{find_from, work_found}
use Rattle.ddm_object.proofs.ObjectReads.{Reads, made}
use Rattle.ddm_laws.proofs.LayoutLaws.{built_reads}
use Rattle.ddm_laws.proofs.BuiltLists.{none, reached}
use Rattle.ddm_change.specs.Change.{changed, change_of, no_such, change_answer}
use Rattle.ddm_change.specs.Request.{Changed, lays_frame, refuses_it, request_of}
use Rattle.change_laws.proofs.ChangedList.{ChangedAs, changed_as, new_object, parameters_changed, same_count, reached_changed, need, change_again, change_own}
use Rattle.change_laws.proofs.ChangeCall.{Lay, done_laid, refused_kept, no_room_lem}
use Rattle.change_laws.proofs.FindingChanged.{Gets, find_new}
use Rattle.change_laws.proofs.AlteredInSteps.{request_altered}
use Rattle.change_laws.proofs.Altered.{alters}
use Rattle.change_laws.proofs.Rebuilt.{Alterer, request_is, AltersFrames, alters_frames}

-- the second parameter, the request's data with a value in the first, and its frame
abbrev behind : List (ℕ × List ℕ)
behind = (0x2414, 9 ∷ []) ∷ []

abbrev new : List ℕ
new = 6 ∷ 5 ∷ []

abbrev d : List ℕ → List ℕ
d x = built_all ((0x2110, x) ∷ behind)

abbrev sent : List ℕ → Sent
sent payload = record { type = Request; chained = true; same = true; correlation = 0x1234; payload = payload }

abbrev asked : List ℕ → List ℕ
asked x = written (sent (request_is 0x200D ((0x2110, x) ∷ behind)))

gives : change_of (d (7 ∷ [])) 0x2110 new ≡ changed (d new)
gives = alters [] behind 0x2110 (7 ∷ []) new tt (omega arith, omega arith, tt) (omega arith) (omega arith) tt

like : ChangedAs (d (7 ∷ [])) 0x2110 new (d new)
like = changed_as (d (7 ∷ [])) 0x2110 new (d new) gives

changed_met : (parameters (d new) ≡ like.at.before ++ (new_object 0x2110 new (omega arith) (omega arith) ∷ like.at.after))
    × (length (parameters (d new)) ≡ length (parameters (d (7 ∷ [])))) × (reached (parameters (d new)) ≡ length (d new))
    × (length (d new) + like.at.one.consumed ≡ length (d (7 ∷ [])) + built_size 2) × (change_of (d new) 0x2110 [] ≡ change_of (d (7 ∷ [])) 0x2110 [])
    × Gets (d new) (length like.at.head) 0x2110 new [] (Ok (record { code_point = 0x2110; in_work = false; data_at = 4; data_len = 2; consumed = 6 })) []
unfolding find_from work_found parameters built laid
changed_met = (
  (parameters_changed 0x2110 new (omega arith) (omega arith) (d (7 ∷ [])) (d new) like).1,
  same_count 0x2110 new (omega arith) (omega arith) (d (7 ∷ [])) (d new) like,
  reached_changed 0x2110 new (omega arith) (omega arith) (d (7 ∷ [])) (d new) like,
  need 0x2110 new (omega arith) (omega arith) (d (7 ∷ [])) (d new) like,
  change_again 0x2110 new (omega arith) (omega arith) (d (7 ∷ [])) (d new) like [],
  find_new 0x2110 new (omega arith) (omega arith) (d (7 ∷ [])) (d new) like [] _ [] (record { answers = refl; work_is = refl }),
)

own_met : change_of (built 2 new) 2 new ≡ changed (built 2 new)
unfolding parameters built
own_met =
    let r : Reads (built 2 new) (made 2 new 6) = built_reads 2 new (omega arith) (omega arith) in
    change_own (built 2 new) 2
    (record { head = []; old = built 2 new; rest = []; before = []; one = made 2 new 6; after = []; bytes = refl; list = refl; head_reads = none; old_reads = r; rest_reads = none; lacks = tt; has = refl }) refl

calls_met : (change_answer (change_of (d (7 ∷ [])) 0x2110 new) 10 ≡ Err (no_room 0 11 0)) × Lay (d (7 ∷ [])) 0x2110 new (replicate 12 3) 11 (d new ++ (3 ∷ []))
    × (◌≡◌ {A = List ℕ} (3 ∷ []) (3 ∷ []))
unfolding change_of parameters built laid
calls_met = (
  no_room_lem (d (7 ∷ [])) 0x2110 new (d new) (replicate 10 3) gives (omega arith) (omega arith),
  done_laid (d (7 ∷ [])) 0x2110 new (replicate 12 3) (d new ++ (3 ∷ [])) 11 (record { answers = refl; room_is = refl }),
  refused_kept (d (7 ∷ [])) 9 new (3 ∷ []) (3 ∷ []) no_such (record { answers = refl; room_is = refl }),
)

steps_met : take 21 (asked new ++ (3 ∷ [])) ≡ asked new
unfolding change_of parameters built written laid
steps_met =
    request_altered [] behind 0x2110 (7 ∷ []) new tt (omega arith, omega arith, tt) (omega arith) (omega arith) tt 0x200D Request true true 0x1234
    (replicate 12 3) (replicate 16 3) (replicate 22 3) (d new ++ (3 ∷ [])) (built 0x200D (d new) ++ (3 ∷ [])) (asked new ++ (3 ∷ [])) 11 15 21
    (record { answers = refl; room_is = refl }) (record { answers = refl; room_is = refl }) (record { answers = refl; room_is = refl })

-- the frame after, of any function that alters frames
wanted : (f : Alterer) → AltersFrames f → f (asked (7 ∷ [])) 0x2110 new ≡ lays_frame (asked new)
unfolding built
wanted f a =
    a (sent []) 0x200D [] behind 0x2110 (7 ∷ []) new (omega arith) (omega arith) (omega arith) tt (omega arith, omega arith, tt) (omega arith) (omega arith) tt
    (λ e. omega (arith, e.size)) (λ e. omega (arith, e.size))

frames_met : request_of (asked (7 ∷ [])) 0x2110 new ≡ lays_frame (asked new)
frames_met = wanted request_of alters_frames

abbrev tells : Changed → List ℕ
tells (lays_frame s) = s
tells (refuses_it r) = []

apart : (f : Alterer) (i : ℕ) → eqb (get_or (tells (f (asked (7 ∷ [])) 0x2110 new)) i 0) (get_or (asked new) i 0) ≡ false → AltersFrames f → ⊥
apart f i t a = eqb-false (get_or (tells (f (asked (7 ∷ [])) 0x2110 new)) i 0) (get_or (asked new) i 0) t (ap (λ (c : Changed). get_or (tells c) i 0) (wanted f a))

-- leaves the frame as it is; clears the flags first, the same correlation among them; refuses everything
abbrev pub leaves : Alterer
leaves s cp x = lays_frame s

abbrev pub clears : Alterer
clears s cp x = request_of (splice s 3 (get_or s 3 0 % 16 ∷ [])) cp x

abbrev pub refuses_all : Alterer
refuses_all s cp x = refuses_it no_such

pub impostors : (AltersFrames leaves → ⊥) × (AltersFrames clears → ⊥) × (AltersFrames refuses_all → ⊥)
unfolding request_of parameters
impostors = (apart leaves 1 refl, apart clears 3 refl, apart refuses_all 1 refl)
