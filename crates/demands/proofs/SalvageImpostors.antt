-- What demand 3 rules out: any salvage that hands out something else, one that drops the frame behind a spoilt one, one that looks at
-- nothing behind the first frame, and one that reads the first frame properly and then invents.
use Prim.Native.Nat.{ℕ, ◌+◌}
use native.Mathlib.Omega.{arith}
use mathlib.Core.Path.{◌≡◌, refl, sym, ap, ap₂, subst, ◌∙◌}
use mathlib.Core.Logic.{inl}
use mathlib.Core.Bool.{Bool, true, false}
use mathlib.Core.List.{List, [], ◌∷◌}
use lib.ListN.{length, take}
use Rattle.wire.proofs.WireLaws.{true_false}
use Rattle.dss_head.specs.declared.DssType.TheVariants.{Request, Object}
use Rattle.dss_frame.specs.Segments.{payload_of, end_of, frame_walk, continuations, walk_fuel}
use Rattle.dss_frame.specs.Reading.{Read, frame, refused, read_at, absorb, absorb_fuel, look}
use Rattle.dss_frame.specs.Salvage.{Entry, Salvaged, salvaged, salvage_fuel}
use Rattle.dss_frame.specs.Written.{Sent, written, chunks, chunks_fuel}
use Rattle.demands.specs.Demands.{Writer, Salvager, Item, good, spoilt, item_bytes, run, DueRead, AllDue, Salvages}
use Rattle.demands.proofs.Salvaging.{salvages}
use Rattle.demands.proofs.ExampleRun.{three, three_salvaged}

-- ---- anything else

-- what two readings say over a run is the same: type, flags, correlation and payload; or the refusal
abbrev pub SaysSame : List ℕ → Read → Read → Type 0
SaysSame s (frame g) (frame h) =
    (g.head.dss_type ≡ h.head.dss_type) × (g.head.flags ≡ h.head.flags) × (g.head.correlation_id ≡ h.head.correlation_id) × (payload_of s g.segments ≡ payload_of s h.segments)
SaysSame s (frame g) (refused r) = ⊥
SaysSame s (refused r) (frame g) = ⊥
SaysSame s (refused q) (refused r) = q ≡ r

-- so many entries, each at the same bytes and saying the same
unfoldable pub AllSame : List ℕ → List Entry → List Entry → Type 0
AllSame s [] [] = Unit {0}
AllSame s [] (e ∷ es) = ⊥
AllSame s (d ∷ ds) [] = ⊥
AllSame s (d ∷ ds) (e ∷ es) = (d.at ≡ e.at) × (d.end ≡ e.end) × SaysSame s d.read e.read × AllSame s ds es

due_same : {writes : Writer} (s : List ℕ) (p : ℕ) (i : Item writes) (x y : Read) → DueRead s p i x → DueRead s p i y → SaysSame s x y
due_same s p (good f _ _) (frame g) (frame h) a b = (
  a.type ∙ sym b.type,
  (λ j. record { chained = (a.chained ∙ sym b.chained) j; continue_on_error = (a.no_continue ∙ sym b.no_continue) j; same_correlation = (a.same ∙ sym b.same) j }),
  a.correlation ∙ sym b.correlation,
  a.payload ∙ sym b.payload,
)
due_same s p (good f _ _) (frame g) (refused r) a b = b
due_same s p (good f _ _) (refused r) y a b = absurd a
due_same s p (spoilt f _ _ c x) (frame g) y a b = absurd a
due_same s p (spoilt f _ _ c x) (refused r) (frame h) a b = b
due_same s p (spoilt f _ _ c x) (refused q) (refused r) a b = λ j. record { why = (a.1 ∙ sym b.1) j; place = (a.0 ∙ sym b.0) j }

-- the demand leaves no choice
pub all_same : {writes : Writer} (s : List ℕ) (p : ℕ) (is : List (Item writes)) (ds es : List Entry) → AllDue s p is ds → AllDue s p is es → AllSame s ds es
unfolding AllDue AllSame
all_same s p [] [] [] a b = tt
all_same s p [] [] (e ∷ es) a b = b
all_same s p [] (d ∷ ds) es a b = absurd a
all_same s p (i ∷ is) [] es a b = absurd a
all_same s p (i ∷ is) (d ∷ ds) [] a b = b
all_same s p (i ∷ is) (d ∷ ds) (e ∷ es) a b = (
  a.0.at ∙ sym b.0.at,
  a.0.end ∙ sym b.0.end,
  due_same s p i d.read e.read a.0.read b.0.read,
  all_same s (p + length (item_bytes i)) is ds es a.1 b.1,
)

-- no salvage that hands out anything else of a run, be it a frame invented behind the first one, is left
pub no_other : (x : Salvager) (items : List (Item written)) → (AllSame (run items) (x (run items)).entries (salvaged (run items)).entries → ⊥) → Salvages written x → ⊥
no_other x items other all = other (all_same (run items) 0 items (x (run items)).entries (salvaged (run items)).entries (all items).0 (salvages items).0)

-- ---- one that drops the frame behind a spoilt one

abbrev is_refused : Read → Bool
is_refused (frame g) = false
is_refused (refused r) = true

-- the first is lost, or none is
abbrev dropping : Bool → List Entry → List Entry
dropping lost [] = []
dropping true (e ∷ es) = dropping false es
dropping false (e ∷ es) = e ∷ dropping (is_refused e.read) es

-- each entry that follows a refused one is lost
pub drops : List Entry → List Entry
drops es = dropping false es

two_of_three : (s : List ℕ) (d e : Entry) → AllDue s 0 three (d ∷ e ∷ []) → ⊥
unfolding AllDue three
two_of_three s d e a = a.1.1

pub no_dropper : Salvages written (λ s. record { entries = drops (salvaged s).entries; tail = (salvaged s).tail }) → ⊥
unfolding drops
no_dropper all = two_of_three (run three) _ _ (subst (AllDue (run three) 0 three) (ap (λ (x : Salvaged). drops x.entries) three_salvaged) (all three).0)

-- ---- one that looks at nothing behind the first frame

-- runs that are alike up to the first entry's end, and as long, come to the same
abbrev pub Blind : Salvager → Type 0
Blind x =
    (s t : List ℕ) (e : Entry) (es fs : List Entry) → (salvaged s).entries ≡ e ∷ es → (salvaged t).entries ≡ e ∷ fs → take e.end s ≡ take e.end t → length s ≡ length t
    → (x s).entries ≡ (x t).entries

-- a request, and an object that is chained or not
request : Sent
request = record { type = Request; chained = false; same = false; correlation = 1; payload = [] }

object : Bool → Sent
object chained = record { type = Object; chained = chained; same = false; correlation = 2; payload = [] }

request_item : Item written
unfolding request
request_item = good request (record { correlation = omega arith; payload = λ k. omega arith }) (inl refl)

object_item : Bool → Item written
unfolding object
object_item c = good (object c) (record { correlation = omega arith; payload = λ k. omega arith }) (inl refl)

pair : Bool → List (Item written)
pair c = request_item ∷ object_item c ∷ []

read_object : (s t : List ℕ) (p q : ℕ) (x : Read) → DueRead s p (object_item true) x → DueRead t q (object_item false) x → ⊥
unfolding object_item object
read_object s t p q (frame g) a b = true_false g.head.flags.chained a.chained b.chained
read_object s t p q (refused r) a b = a

-- one list is not both runs'
apart : (s t : List ℕ) (es : List Entry) → AllDue s 0 (pair true) es → AllDue t 0 (pair false) es → ⊥
unfolding AllDue pair
apart s t [] a b = a
apart s t (d ∷ []) a b = a.1
apart s t (d ∷ e ∷ es) a b = read_object s t _ _ e.read a.1.0.read b.1.0.read

first : Entry
first = record {
  at = 0;
  end = 6;
  read =
      frame (record {
        head = record { length = 6; dss_type = Request; flags = record { chained = false; continue_on_error = false; same_correlation = false }; correlation_id = 1 };
        segments = record { at = 0; framing = 6; dropped = 0; end = 6 } ∷ [];
      });
}

second : Bool → Entry
second c = record {
  at = 6;
  end = 12;
  read =
      frame (record {
        head = record { length = 6; dss_type = Object; flags = record { chained = c; continue_on_error = false; same_correlation = false }; correlation_id = 2 };
        segments = record { at = 6; framing = 6; dropped = 0; end = 12 } ∷ [];
      });
}

pair_salvaged : (c : Bool) → (salvaged (run (pair c))).entries ≡ first ∷ second c ∷ []
unfolding first second pair run request_item object_item request object written chunks chunks_fuel salvaged salvage_fuel read_at absorb absorb_fuel look payload_of end_of frame_walk continuations walk_fuel
pair_salvaged true = refl
pair_salvaged false = refl

pair_alike : (take first.end (run (pair true)) ≡ take first.end (run (pair false))) × (length (run (pair true)) ≡ length (run (pair false)))
unfolding first pair run request_item object_item request object written chunks chunks_fuel
pair_alike = (refl, refl)

pub no_blind : (x : Salvager) → Blind x → Salvages written x → ⊥
no_blind x blind all =
    let e : (x (run (pair true))).entries ≡ (x (run (pair false))).entries =
    blind (run (pair true)) (run (pair false)) first (second true ∷ []) (second false ∷ []) (pair_salvaged true) (pair_salvaged false) pair_alike.0 pair_alike.1 in
    apart (run (pair true)) (run (pair false)) (x (run (pair false))).entries (subst (AllDue (run (pair true)) 0 (pair true)) e (all (pair true)).0) (all (pair false)).0

-- ---- one that reads the first frame properly and then invents

-- from the first entry, its bytes and the run's length
abbrev inventing : (Entry → List ℕ → ℕ → List Entry) → List ℕ → List Entry → List Entry
inventing invent s [] = []
inventing invent s (e ∷ es) = e ∷ invent e (take e.end s) (length s)

abbrev pub first_then : (Entry → List ℕ → ℕ → List Entry) → Salvager
first_then invent s = record { entries = inventing invent s (salvaged s).entries; tail = (salvaged s).tail }

invents_blind : (invent : Entry → List ℕ → ℕ → List Entry) → Blind (first_then invent)
invents_blind invent s t e es fs p q b l =
    ap (inventing invent s) p ∙ ap₂ (λ (a : List ℕ) (n : ℕ). e ∷ invent e a n) b l ∙ sym (ap (inventing invent t) q)

pub no_inventor : (invent : Entry → List ℕ → ℕ → List Entry) → Salvages written (first_then invent) → ⊥
no_inventor invent all = no_blind (first_then invent) (invents_blind invent) all
