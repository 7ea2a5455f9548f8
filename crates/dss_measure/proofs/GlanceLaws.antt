-- What can be told of a frame at a glance, and its laws: a head stands there; nothing there can belong to a frame before it; a
-- frame of one segment stands alone.
use Rattle.std.specs.Prelude.{Result, Ok}
use Prim.Native.Nat.{ℕ, ◌+◌, ◌-◌, ◌%◌, ◌≤◌, ◌<◌}
use native.Mathlib.Omega.{arith}
use mathlib.Core.Path.{◌≡◌, refl, sym, ap, ◌∙◌}
use mathlib.Core.Bool.{Bool, false}
use mathlib.Core.List.{List, [], ◌∷◌}
use lib.Dec.{eqb}
use lib.ListN.{length, get_or}
use Rattle.wire.specs.Bytes.{be16, part}
use Rattle.wire.proofs.WireLaws.{by, pick_yes, pick_no, part_length}
use Rattle.dss_head.specs.Heads.{length_of, type_at, bit, flags_of, head_with, head_at}
use Rattle.dss_head.proofs.TypeLaws.{last_type, type_by}
use Rattle.dss_head.proofs.HeadLaws.{head_typed}
use Rattle.dss_head.specs.declared.DssType.{DssType}
use Rattle.dss_head.specs.declared.DssFlags.{DssFlags}
use Rattle.dss_head.specs.declared.DssHeader.{DssHeader}
use Rattle.dss_frame.specs.declared.Rules.{Rules}
use Rattle.dss_frame.specs.Segments.{first}
use Rattle.dss_frame.specs.Reading.{finished, look_at, absorb}
use Rattle.dss_laws.proofs.Looking.{look_nothing}
use Rattle.dss_measure.specs.declared.PayloadSoFar.{PayloadSoFar}
use Rattle.dss_measure.specs.inner.Walking.{walked, looked_of, payload_so_far, extended_by}
use Rattle.dss_measure.specs.Measure.{measured_of, measured_at}
use Rattle.dss_measure.proofs.LookLaws.{look_head}
use Rattle.dss_measure.proofs.WalkLaws.{single}
use Rattle.dss_measure.proofs.Readings.{measured_single}
use Rattle.dss_measure.proofs.Absorbing.{absorbing_one, absorbing_finished}
use Rattle.dss_measure.specs.inner.Glancing.{Headed, StandsApart, Lone}
use Rattle.answer.specs.declared.Refused.{Refused}

-- ---- a head stands there

pub headed : (s : List ℕ) (q : ℕ) → 6 ≤ length s - q → get_or s (q + 2) 0 ≡ 0xD0 → 1 ≤ get_or s (q + 3) 0 % 16 → get_or s (q + 3) 0 % 16 ≤ last_type → Headed s q
headed s q h m i j = typed (head_typed s q h m)
  where
    Made : Result DssType Refused → Type 0
    Made x = head_at s q ≡ head_with s q x → Headed s q

    is : (t : DssType) → Made (Ok t)
    is t e =
        record {
          head = record { length = length_of (be16 s q); dss_type = t; flags = flags_of (get_or s (q + 3) 0); correlation_id = be16 s (q + 4) };
          six = h;
          found = sym e;
          flagged = refl;
        }

    typed : Made (type_at (get_or s (q + 3) 0) q)
    typed = type_by Made (get_or s (q + 3) 0) q (λ t _. is t) (λ none. absurd (none i j))

-- ---- nothing there can belong to a frame before it

-- "Fewer than six bytes left: finished"
pub apart_nothing : (s : List ℕ) (q : ℕ) → length s - q < 6 → StandsApart s q
apart_nothing s q h rules t extended = look_nothing rules s q h t extended

-- "Raw 0xFFFF, or same correlation clear: finished"
looks_clear : (rules : Rules) (s : List ℕ) (t : DssType) (extended : Bool) (q : ℕ) (h : DssHeader) → h.flags.same_correlation ≡ false
    → look_at rules s t extended q (Ok h) ≡ finished
looks_clear rules s t extended q h c = by (eqb (be16 s q) 65535) (λ e. pick_yes _ _ e) (λ e. pick_no _ _ e ∙ pick_no _ _ c)

pub apart_clear : (s : List ℕ) (q : ℕ) → Headed s q → bit 0x10 (get_or s (q + 3) 0) ≡ false → StandsApart s q
apart_clear s q w c rules t extended =
    look_head rules s t extended q (Ok w.head) w.six w.found
    ∙ looks_clear rules s t extended q w.head (ap (λ (f : DssFlags). f.same_correlation) w.flagged ∙ c)

-- ---- a frame of one segment stands alone

pub single_apart : (rules : Rules) (s : List ℕ) (p n : ℕ) (h : DssHeader) → p + n ≤ length s → StandsApart s (p + n)
    → measured_of s p (absorb rules s p h (first p n ∷ [])) ≡ Ok (record { header = h; payload_len = n - 6; segments = 1; end = p + n })
single_apart rules s p n h i apart =
    let v : PayloadSoFar = payload_so_far (part s (p + 6) (p + n)) in
    absorbing_finished rules s p _ h 1 (p + n) v (extended_by v) (absorbing_one rules s p n h v refl) refl (ap looked_of (apart rules h.dss_type (extended_by v)))
    ∙ ap (λ (l : ℕ). Ok (record { header = h; payload_len = l; segments = 1; end = p + n })) (part_length s (p + 6) (p + n) i ∙ omega arith)

pub lone_measured : (rules : Rules) (s : List ℕ) (p n : ℕ) (w : Lone s p n)
    → measured_at rules s p ≡ Ok (record { header = w.headed.head; payload_len = n - 6; segments = 1; end = p + n })
lone_measured rules s p n w =
    let h = w.headed in
    measured_single rules s p (walked (p + n) 1 (n - 6)) (single rules s p n w.raw_is h.six w.one w.there) h.head h.found n w.raw_is w.one w.six
    ∙ single_apart rules s p n h.head (omega (arith, h.six, w.there)) w.apart
