-- What is known of a request before it is laid down: its frame's one object, and what is left over behind either.
use Rattle.std.specs.Prelude.{Result, Ok, Err}
use Prim.Native.Nat.{ℕ, ◌+◌, ◌-◌, ◌≤◌, ◌<◌}
use native.Mathlib.Omega.{arith}
use mathlib.Core.Path.{◌≡◌, refl, sym, ap, subst, ◌∙◌}
use mathlib.Core.List.{List}
use borrow.Author.Tests.{le-ltb, lt-ltb, le-leb, lt-leb, eq-eqb, ne_eqb}
use lib.Dec.{eqb}
use lib.ListN.{length, take, drop, length-drop}
use lib.Seq.{take_all, length-take-le}
use Rattle.wire.specs.Bytes.{pick, be16}
use Rattle.wire.proofs.WireLaws.{pick_yes, pick_no}
use Rattle.answer.specs.declared.Refused.{Refused}
use Rattle.dss_frame.specs.Segments.{payload_of, end_of}
use Rattle.ddm_length.specs.Lengths.{measured}
use Rattle.ddm_length.proofs.TakenLengths.{measured_taken}
use Rattle.ddm_length.proofs.Fronts.{in_order}
use Rattle.ddm_builder.specs.Built.{built}
use Rattle.ddm_object.specs.Objects.{Object, object, parsed, content_of}
use Rattle.ddm_object.specs.Objects as ddm
use Rattle.ddm_object.proofs.ObjectReads.{made, content_plain}
use Rattle.ddm_change.specs.Change.{Change, changed, faulty, lacking, change_of, unsound}
use Rattle.ddm_change.specs.Request.{Changed, refuses_it, place_in, framed_of, built_of, unless_behind, request_object, request_of}
use Rattle.ddm_change.specs.inner.Carried.{carried, place_of}
use Rattle.ddm_change.proofs.CarriedLaws.{place_inside}
use Rattle.ddm_change.specs.inner.Planning.{outcome, OneObject}
use Rattle.ddm_change.proofs.PlanFrame.{Decides, place_first}
use Rattle.ddm_change.specs.declared.Carriage.{Carriage}
use Rattle.ddm_length.specs.declared.Marshaled.{Marshaled}
use Rattle.ddm_length.specs.Lengths.{takes}

module _ (s : List ℕ) (end : ℕ) (c : Carriage) (d : Decides s end c) where
  -- 17 where bytes are left over behind the frame
  behind : (x : Changed) → end < length s → unless_behind s d.segments x ≡ refuses_it (unsound end)
  behind x h =
      pick_no _ _ (lt-leb (length s) (end_of 0 d.segments) (omega (arith, d.ends)))
      ∙ ap (λ (n : ℕ). refuses_it (unsound n)) d.ends

  nothing_behind : (x : Changed) → length s ≤ end → unless_behind s d.segments x ≡ x
  nothing_behind x h = pick_yes _ _ (le-leb (length s) (end_of 0 d.segments) (omega (arith, d.ends)))

  -- where bytes are left over behind the object, each has its place
  pub over_place : (i : ℕ) → i < length (carried c (take end s)) → place_of c i < length s
  over_place i h = omega (arith, place_inside c (take end s) d.sound i h, length-take-le end s d.within, d.within)

  measured_as : (m : Result Marshaled Refused) → measured (carried c (take end s)) 6 ≡ m → parsed (payload_of s d.segments) 6 ≡ ddm.object_of (carried c (take end s)) m
  unfolding parsed
  measured_as m e = ap (λ (l : List ℕ). parsed l 6) d.payload_is ∙ ap (ddm.object_of (carried c (take end s))) e

  module _ (r : Refused) (e : measured (carried c (take end s)) 6 ≡ Err r) (cp : ℕ) (new : List ℕ) where
    comes_refused : request_of s cp new ≡ unless_behind s d.segments (refuses_it r)
    comes_refused = d.comes cp new ∙ ap (request_object s cp new d.segments) (measured_as (Err r) e)

    pub refused_behind : end < length s → request_of s cp new ≡ refuses_it (unsound end)
    refused_behind h = comes_refused ∙ behind (refuses_it r) h

    -- 4, 5, 6, 8
    pub refused_object : length s ≤ end → request_of s cp new ≡ refuses_it r
    refused_object h = comes_refused ∙ nothing_behind (refuses_it r) h

  module _ (total header : ℕ) (e : measured (carried c (take end s)) 6 ≡ Ok (takes total header)) where
    abbrev one : Object
    one = made (be16 (carried c (take end s)) 2) (content_of (carried c (take end s)) total header) total

    -- what is left of the order once nothing is left over behind the object
    abbrev plain : ℕ → List ℕ → Changed
    plain cp new =
        pick (eqb (be16 (payload_of s d.segments) 0) 0x8004) (refuses_it (unsound (place_in 0 d.segments 0)))
        (built_of s d.segments one (change_of one.content cp new))

    comes_object : (cp : ℕ) (new : List ℕ) → request_of s cp new ≡ request_object s cp new d.segments (object one)
    comes_object cp new = d.comes cp new ∙ ap (request_object s cp new d.segments) (measured_as (Ok (takes total header)) e)

    -- or behind its one object
    pub object_over : total < length (carried c (take end s)) → (cp : ℕ) (new : List ℕ) → request_of s cp new ≡ refuses_it (unsound (place_of c total))
    object_over h cp new =
        comes_object cp new
        ∙ pick_yes _ _ (lt-ltb total (length (payload_of s d.segments)) (omega (arith, ap length d.payload_is)))
        ∙ ap (λ (n : ℕ). refuses_it (unsound n)) (d.places total)

    module _ (all : length (carried c (take end s)) ≤ total) where
      comes_plain : (cp : ℕ) (new : List ℕ) → request_of s cp new ≡ unless_behind s d.segments (plain cp new)
      comes_plain cp new =
          comes_object cp new
          ∙ pick_no _ _ (le-ltb total (length (payload_of s d.segments)) (omega (arith, ap length d.payload_is)))

      pub object_behind : end < length s → (cp : ℕ) (new : List ℕ) → request_of s cp new ≡ refuses_it (unsound end)
      object_behind h cp new = comes_plain cp new ∙ behind (plain cp new) h

      module _ (h : length s ≤ end) where
        pub all_taken : take end s ≡ s
        all_taken = take_all end s h

        payload_all : payload_of s d.segments ≡ carried c s
        payload_all = d.payload_is ∙ ap (carried c) all_taken

        order : (4 ≤ header) × (header ≤ total) × (total ≤ length (carried c (take end s)))
        order = in_order (measured_taken (carried c (take end s)) total header 6 e)

        comes_here : (cp : ℕ) (new : List ℕ) → request_of s cp new ≡ plain cp new
        comes_here cp new = comes_plain cp new ∙ nothing_behind (plain cp new) h

        -- 17 for raw length 0x8004
        pub object_raw : c.lead ≡ 6 → be16 (carried c (take end s)) 0 ≡ 0x8004 → (cp : ℕ) (new : List ℕ) → request_of s cp new ≡ refuses_it (unsound 6)
        object_raw l q cp new =
            comes_here cp new
            ∙ pick_yes _ _ (eq-eqb (be16 (payload_of s d.segments) 0) 0x8004 (ap (λ (b : List ℕ). be16 b 0) d.payload_is ∙ q))
            ∙ ap (λ (n : ℕ). refuses_it (unsound n)) (d.places 0 ∙ place_first c l)

        object_here : c.lead ≡ 6 → ¬ (be16 (carried c s) 0 ≡ 0x8004) → OneObject s c header
        object_here l n =
            record {
              led = l;
              four = omega (arith, order);
              within = omega (arith, order, same_length);
              comes = λ cp new.
                  comes_here cp new
                  ∙ pick_no _ _ (ne_eqb (be16 (payload_of s d.segments) 0) 0x8004 (λ q. n (sym (ap (λ (b : List ℕ). be16 b 0) payload_all) ∙ q)))
                  ∙ ap (λ (b : List ℕ). built_of s d.segments one (change_of b cp new)) content
                  ∙ as_outcome (change_of (drop header (carried c s)) cp new);
            }
          where
            v : List ℕ
            v = carried c (take end s)

            same : v ≡ carried c s
            same = ap (carried c) all_taken

            same_length : length v ≡ length (carried c s)
            same_length = ap length same

            content_here : one.content ≡ drop header v
            content_here =
                content_plain v total header (λ q. n (sym (ap (λ (b : List ℕ). be16 b 0) same) ∙ q))
                ∙ take_all (total - header) (drop header v) (omega (arith, length-drop header v))

            content : one.content ≡ drop header (carried c s)
            content = content_here ∙ ap (drop header) same

            header_is : total - length one.content ≡ header
            header_is = omega (arith, order, ap length content_here, length-drop header v)

            as_outcome : (x : Change) → built_of s d.segments one x ≡ outcome s c header x
            as_outcome (changed b) = ap (λ (l : List ℕ). framed_of s (built (be16 l 2) b)) same
            as_outcome (faulty place) =
                ap (λ (k : ℕ). refuses_it (unsound (place_in 0 d.segments (k + place)))) header_is
                ∙ ap (λ (k : ℕ). refuses_it (unsound k)) (d.places (header + place))
            as_outcome lacking = refl

        -- the data decide
        pub object_data : c.lead ≡ 6 → ¬ (be16 (carried c (take end s)) 0 ≡ 0x8004) → OneObject (take end s) c header
        object_data l n =
            subst (λ (x : List ℕ). OneObject x c header) (sym all_taken)
            (object_here l (λ q. n (ap (λ (x : List ℕ). be16 (carried c x) 0) all_taken ∙ q)))
