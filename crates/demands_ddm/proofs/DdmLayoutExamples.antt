-- Bytes that meet the premises of the layout's statements, what each comes to there, and what the statements rule out.
use Prim.Native.Nat.{ℕ, ◌+◌, ◌≤◌, ◌<◌}
use native.Mathlib.Omega.{arith}
use mathlib.Core.Path.{◌≡◌, refl, sym, ap, ◌∙◌}
use mathlib.Core.List.{List, [], ◌∷◌, ◌++◌}
use lib.ListN.{length, take, drop, replicate, length-append, length-replicate, take-append-drop}
use Rattle.wire.specs.Bytes.{two, spelled}
use Rattle.wire.proofs.OctetLaws.{octets_tested}
use Rattle.answer.specs.declared.Refused.{Refused}
use Rattle.layouts.specs.DdmLayout.{four, short, to_end, Ddm, inline, extended, streamed}
use Rattle.ddm_length.specs.Markers.{unmarked, ends, fe}
use Rattle.ddm_length.proofs.MarkerLaws.{unmarked_marked}
use Rattle.ddm_object.specs.Objects.{Object, Parsed, object, refused, parsed}
use Rattle.demands_ddm.specs.DdmLayouts.{Parser, read_as, BuildsLayout, ReadsDdmLayout, RemovesMarkers, ReadHasLayout, FixesObject}
use Rattle.demands_ddm.proofs.Layouts.{reads_layout, removes_markers, reads_other_widths, read_has_layout, fixes_object}
use Rattle.demands_ddm.proofs.LayoutRead.{ends_with}

-- ---- the premises are met

-- inline, with four length bytes, and to the end; 9 stands behind the first two
pub inline_met : parsed (0x00 ∷ 0x05 ∷ 0x24 ∷ 0x12 ∷ 0xC1 ∷ 9 ∷ []) 0 ≡ read_as 0x2412 (0xC1 ∷ []) 5
inline_met = reads_layout 0x2412 (0xC1 ∷ []) (0x00 ∷ 0x05 ∷ 0x24 ∷ 0x12 ∷ 0xC1 ∷ []) (9 ∷ []) 0 (omega arith, omega arith) (inline (omega arith)) (λ e. absurd (omega arith)) (λ e. absurd (omega arith))

pub extended_met : parsed (0x80 ∷ 0x08 ∷ 0x24 ∷ 0x12 ∷ 0 ∷ 0 ∷ 0 ∷ 1 ∷ 0xC1 ∷ 9 ∷ []) 0 ≡ read_as 0x2412 (0xC1 ∷ []) 9
unfolding spelled
extended_met =
    reads_layout 0x2412 (0xC1 ∷ []) (0x80 ∷ 0x08 ∷ 0x24 ∷ 0x12 ∷ 0 ∷ 0 ∷ 0 ∷ 1 ∷ 0xC1 ∷ []) (9 ∷ []) 0 (omega arith, omega arith) (extended 4 (0 ∷ 0 ∷ 0 ∷ 1 ∷ []) four refl refl)
    (λ e. absurd (omega arith)) (λ e. absurd (omega arith))

pub streamed_met : parsed (0x80 ∷ 0x04 ∷ 0x24 ∷ 0x12 ∷ 0xC1 ∷ 9 ∷ []) 0 ≡ read_as 0x2412 (0xC1 ∷ 9 ∷ []) 6
streamed_met = reads_layout 0x2412 (0xC1 ∷ 9 ∷ []) (0x80 ∷ 0x04 ∷ 0x24 ∷ 0x12 ∷ 0xC1 ∷ 9 ∷ []) [] 0 (omega arith, omega arith) streamed (λ e. refl) (λ e. refl)

-- the same read as its layout says
pub streamed_back : Ddm 0x2412 (0xC1 ∷ 9 ∷ []) (0x80 ∷ 0x04 ∷ 0x24 ∷ 0x12 ∷ 0xC1 ∷ 9 ∷ [])
streamed_back =
    read_has_layout (0x80 ∷ 0x04 ∷ 0x24 ∷ 0x12 ∷ 0xC1 ∷ 9 ∷ []) 0 (record { code_point = 0x2412; content = 0xC1 ∷ 9 ∷ []; consumed = 6 })
    (octets_tested (0x80 ∷ 0x04 ∷ 0x24 ∷ 0x12 ∷ 0xC1 ∷ 9 ∷ []) refl) (to_end refl) (λ e. refl) streamed_met

-- ---- the differences, with the smallest bytes that have them

-- 32,757 bytes, what looks like a marker, and a byte: two of 32,760 bytes are gone
pub marker_lost : (a : List ℕ) → length a ≡ 32757 → parsed (two 0x8004 ++ (two 0x2412 ++ (a ++ (0x7F ∷ 0xFE ∷ 1 ∷ [])))) 0 ≡ read_as 0x2412 (a ++ (1 ∷ [])) 32764
marker_lost a l =
    removes_markers 0x2412 (a ++ (0x7F ∷ 0xFE ∷ 1 ∷ [])) 0 (omega arith)
    ∙ ap (λ (n : ℕ). read_as 0x2412 (unmarked (a ++ (0x7F ∷ 0xFE ∷ 1 ∷ []))) n) (let z : 4 + length (a ++ (0x7F ∷ 0xFE ∷ 1 ∷ [])) ≡ 32764 = omega (arith, length-append a (0x7F ∷ 0xFE ∷ 1 ∷ [])) in z)
    ∙ ap (λ (d : List ℕ). read_as 0x2412 d 32764) (unmarked_marked a l (ends fe (1 ∷ []) (omega arith) (omega arith)))

-- an object behind one without an end of its own is that one's data
pub next_taken : parsed (0x80 ∷ 0x04 ∷ 0x24 ∷ 0x12 ∷ 0x00 ∷ 0x04 ∷ 0x24 ∷ 0x14 ∷ []) 0 ≡ read_as 0x2412 (0x00 ∷ 0x04 ∷ 0x24 ∷ 0x14 ∷ []) 8
unfolding unmarked
next_taken = removes_markers 0x2412 (0x00 ∷ 0x04 ∷ 0x24 ∷ 0x14 ∷ []) 0 (omega arith)

-- P14: one length byte
pub one_length_byte : parsed (0x80 ∷ 0x05 ∷ 0x24 ∷ 0x12 ∷ 0x01 ∷ 0xC1 ∷ []) 0 ≡ read_as 0x2412 (0xC1 ∷ []) 6
unfolding spelled
one_length_byte = reads_other_widths 0x2412 (0xC1 ∷ []) (1 ∷ []) [] 0 (omega arith, omega arith) (omega arith, omega arith) refl

-- ---- what the statements rule out

object_refused : (o : Object) (r : Refused) → object o ≡ refused r → ⊥
object_refused o r e = let z : ◌≡◌ {A = ℕ} 0 1 = cc in omega arith

same_object : (o o' : Object) → object o ≡ object o' → o ≡ o'
same_object o o' e = cc

four_bytes : {cp : ℕ} {d p : List ℕ} → Ddm cp d p → 4 ≤ length p
four_bytes {cp} {d} w = let h = ends_with w in omega (arith, ap length h.1, length-append h.0 d, h.2)

-- a builder that lays nothing down
pub no_silent_builder : BuildsLayout (λ cp d. []) → ⊥
no_silent_builder b = omega (arith, four_bytes (b 0 [] (omega arith, omega arith)).0)

-- one that makes the same of everything
pub no_fixed_builder : (x : List ℕ) → BuildsLayout (λ cp d. x) → ⊥
no_fixed_builder x b =
    let z : ◌≡◌ {A = ℕ} 0 1 = (fixes_object 0 1 [] [] x (omega arith) (omega arith) (b 0 [] (omega arith, omega arith)).0 (b 1 [] (omega arith, omega arith)).0).0 in
    omega arith

-- the empty object, whatever its code point
empty_read : (parses : Parser) → ReadsDdmLayout parses → (cp : ℕ) → cp < 65536 → parses (two 4 ++ (two cp ++ [])) 0 ≡ read_as cp [] 4
empty_read parses r cp small = r cp [] (two 4 ++ (two cp ++ [])) [] 0 (small, omega arith) (inline (omega arith)) (λ e. absurd (omega arith)) (λ e. absurd (omega arith))

-- a parser that refuses everything
pub no_refuser : (r : List ℕ → ℕ → Refused) → ReadsDdmLayout (λ b p. refused (r b p)) → ⊥
no_refuser r l = object_refused _ (r (two 4 ++ (two 0 ++ [])) 0) (sym (empty_read (λ b p. refused (r b p)) l 0 (omega arith)))

-- one with a fixed answer
pub no_fixed_parser : (x : Parsed) → ReadsDdmLayout (λ b p. x) → ⊥
no_fixed_parser x l =
    let z : read_as 0 [] 4 ≡ read_as 1 [] 4 = sym (empty_read (λ b p. x) l 0 (omega arith)) ∙ empty_read (λ b p. x) l 1 (omega arith) in
    let n : ◌≡◌ {A = ℕ} 0 1 = ap (λ (o : Object). o.code_point) (same_object _ _ z) in
    omega arith

-- a parser that keeps what looks like a marker, as the volume's layout has it
pub no_keeper : (parses : Parser) → ((cp : ℕ) (d : List ℕ) → cp < 65536 → parses (two 0x8004 ++ (two cp ++ d)) 0 ≡ read_as cp d (4 + length d)) → RemovesMarkers parses → ⊥
no_keeper parses keeps m = go (replicate 32757 0xC1) (length-replicate {A = ℕ} 32757 0xC1)
  where
    go : (a : List ℕ) → length a ≡ 32757 → ⊥
    go a l =
        let d : List ℕ = a ++ (0x7F ∷ 0xFE ∷ 1 ∷ []) in
        let u : unmarked d ≡ a ++ (1 ∷ []) = unmarked_marked a l (ends fe (1 ∷ []) (omega arith) (omega arith)) in
        let e : read_as 0 d (4 + length d) ≡ read_as 0 (unmarked d) (4 + length d) = sym (keeps 0 d (omega arith)) ∙ m 0 d 0 (omega arith) in
        let k : d ≡ unmarked d = ap (λ (o : Object). o.content) (same_object _ _ e) in
        omega (arith, ap length (k ∙ u), length-append a (0x7F ∷ 0xFE ∷ 1 ∷ []), length-append a (1 ∷ []))

-- one that hands out an object whatever the bytes
pub no_yes_man : (g : List ℕ → ℕ → Object) → ReadHasLayout (λ b p. object (g b p)) → ⊥
no_yes_man g r =
    let b : List ℕ = 0 ∷ [] in
    let n : ℕ = (g b 0).consumed in
    omega (arith, four_bytes (r b 0 (g b 0) (octets_tested (0 ∷ []) refl) (short (omega arith)) (λ e. absurd (omega arith)) refl), ap length (take-append-drop n b), length-append (take n b) (drop n b))

-- a layout that all bytes have
pub no_lax_layout : FixesObject (λ cp d p. Unit {0}) → ⊥
no_lax_layout f = let z : ◌≡◌ {A = ℕ} 0 1 = (f 0 1 [] [] [] (omega arith) (omega arith) tt tt).0 in omega arith
