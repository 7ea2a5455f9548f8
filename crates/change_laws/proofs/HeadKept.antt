-- Format byte and correlation are copied as they are: where continue on error and 0x80 are clear in the frame given, the frame after is
-- what the writer lays down of the head that was read.
use Rattle.std.specs.Prelude.{Result, Ok, Err}
use Prim.Native.Nat.{ℕ, ◌+◌, ◌*◌, ◌-◌, ◌/◌, ◌%◌, ◌≤◌, ◌<◌}
use native.Mathlib.Omega.{arith}
use mathlib.Core.Path.{◌≡◌, refl, sym, ◌∙◌, ap, ap₂}
use mathlib.Core.Bool.{Bool, true, false}
use mathlib.Core.List.{List, [], ◌∷◌, ◌++◌}
use borrow.Author.Tests.{eqb-true, eqb-false, ltb-false}
use lib.Dec.{eqb, ltb}
use lib.ListN.{length, get_or}
use Rattle.wire.specs.Bytes.{pick, be16, two, part, Octets}
use Rattle.wire.proofs.WireLaws.{by, pick_yes, pick_no, picked}
use Rattle.wire.proofs.OctetLaws.{octets_tested}
use Rattle.dss_head.specs.Heads.{type_at, type_byte, bit, flags_of, flags_byte, head_with, head_at, length_of}
use Rattle.dss_head.proofs.TypeLaws.{type_read}
use Rattle.dss_head.proofs.HeadLaws.{found_refused}
use Rattle.dss_head.specs.declared.DssType.{DssType}
use Rattle.dss_head.specs.declared.DssType.TheVariants.{Request}
use Rattle.dss_head.specs.declared.DssFlags.{DssFlags}
use Rattle.dss_head.specs.declared.DssHeader.{DssHeader}
use Rattle.dss_frame.specs.Written.{Sent, head_of, written}
use Rattle.ddm_change.specs.inner.Outlay.{raw_first, outlaid}
use Rattle.ddm_change.proofs.Reframing.{written_is, reframed_is}
use Rattle.ddm_change.specs.Request.{reframed}
use Rattle.answer.specs.declared.Refused.{Refused}

-- the frame that has the head and the payload
abbrev pub sent_of : DssHeader → List ℕ → Sent
sent_of h payload =
    record { type = h.dss_type; chained = h.flags.chained; same = h.flags.same_correlation; correlation = h.correlation_id; payload = payload }

-- ---- the format byte

weigh : (w b : ℕ) → pick (bit w b) w 0 ≡ w * (b / w % 2)
weigh w b =
    by (bit w b) (λ t. pick_yes _ _ t ∙ to 1 w (eqb-true (b / w % 2) 1 t) (omega arith))
    (λ t. let n : b / w % 2 ≡ 1 → ⊥ = eqb-false (b / w % 2) 1 t in pick_no _ _ t ∙ to 0 0 (omega arith) (omega arith))
  where
    to : (n m : ℕ) → b / w % 2 ≡ n → m ≡ w * n → m ≡ w * (b / w % 2)
    to n m e f = f ∙ ap (λ (k : ℕ). w * k) (sym e)

-- without continue on error and 0x80: the type and the other two flags
abbrev flags_kept : ℕ → DssFlags
flags_kept b = record { chained = bit 0x40 b; continue_on_error = false; same_correlation = bit 0x10 b }

format_is : (b : ℕ) (t : DssType) → b < 256 → type_at b 0 ≡ Ok t → bit 0x20 b ≡ false → bit 0x80 b ≡ false → b ≡ type_byte t + flags_byte (flags_kept b)
format_is b t h e c d =
    let n : b / 0x20 % 2 ≡ 1 → ⊥ = eqb-false (b / 0x20 % 2) 1 c in
    let m : b / 0x80 % 2 ≡ 1 → ⊥ = eqb-false (b / 0x80 % 2) 1 d in
    let w : b / 0x80 ≡ 0 = omega arith in
    let x : b / 0x40 ≡ b / 0x40 % 2 = omega arith in
    let y : b / 0x20 ≡ 2 * (b / 0x40) = omega arith in
    let z : b / 0x10 ≡ 2 * (b / 0x20) + b / 0x10 % 2 = omega arith in
    let v : b ≡ 16 * (b / 0x10) + b % 16 = omega arith in
    omega (arith, type_read b 0 t e, weigh 0x40 b, weigh 0x10 b)

-- ---- the six bytes

pub part_six : (s : List ℕ) → 6 ≤ length s → part s 2 6 ≡ get_or s 2 0 ∷ get_or s 3 0 ∷ get_or s 4 0 ∷ get_or s 5 0 ∷ []
part_six [] h = absurd (omega arith)
part_six (a ∷ []) h = absurd (omega arith)
part_six (a ∷ b ∷ []) h = absurd (omega arith)
part_six (a ∷ b ∷ c ∷ []) h = absurd (omega arith)
part_six (a ∷ b ∷ c ∷ d ∷ []) h = absurd (omega arith)
part_six (a ∷ b ∷ c ∷ d ∷ e ∷ []) h = absurd (omega arith)
part_six (a ∷ b ∷ c ∷ d ∷ e ∷ f ∷ s) h = refl

two_of : (x y : ℕ) → x < 256 → y < 256 → two (x * 256 + y) ≡ x ∷ y ∷ []
two_of x y h k =
    let a : (x * 256 + y) / 256 % 256 ≡ x = omega arith in
    let b : (x * 256 + y) % 256 ≡ y = omega arith in
    ap₂ (λ (m n : ℕ). m ∷ n ∷ []) a b

module _ (s : List ℕ) where
  abbrev head_was : DssType → DssHeader
  head_was t = record { length = length_of (be16 s 0); dss_type = t; flags = flags_of (get_or s 3 0); correlation_id = be16 s 4 }

  kept : (t : DssType) → Octets s → 6 ≤ length s → get_or s 2 0 ≡ 0xD0 → type_at (get_or s 3 0) 0 ≡ Ok t → bit 0x20 (get_or s 3 0) ≡ false → bit 0x80 (get_or s 3 0) ≡ false
      → (payload : List ℕ) → reframed s payload ≡ written (sent_of (head_was t) payload)
  kept t o six m e c d payload =
      let n : ℕ = length payload in
      let b : ℕ = get_or s 3 0 in
      let p : part s 2 6 ≡ 0xD0 ∷ (type_byte t + flags_byte (flags_kept b)) ∷ two (be16 s 4) =
      part_six s six ∙ ap (λ (x : ℕ). x ∷ b ∷ get_or s 4 0 ∷ get_or s 5 0 ∷ []) m
      ∙ ap₂ (λ (x : ℕ) (l : List ℕ). 0xD0 ∷ x ∷ l) (format_is b t (o 3) e c d) (sym (two_of (get_or s 4 0) (get_or s 5 0) (o 4) (o 5))) in
      reframed_is s payload six
      ∙ ap (λ (l : List ℕ). (two (raw_first n) ++ l) ++ outlaid n 0 payload) p
      ∙ sym (written_is (sent_of (head_was t) payload))

-- the frame after is what the writer lays down
pub head_kept : (s : List ℕ) (h : DssHeader) → Octets s → head_at s 0 ≡ Ok h → h.flags.continue_on_error ≡ false → bit 0x80 (get_or s 3 0) ≡ false
    → (payload : List ℕ) → reframed s payload ≡ written (sent_of h payload)
head_kept s h o e c d payload =
    picked (ltb (length s - 0) 6) e (λ _ k. absurd (found_refused h _ (sym k))) (λ t e.
    picked (eqb (get_or s 2 0) 0xD0) e
    (λ u k. go (omega (arith, ltb-false (length s - 0) 6 t)) (eqb-true (get_or s 2 0) 0xD0 u) (type_at (get_or s 3 0) 0) refl k) (λ _ k. absurd (found_refused h _ (sym k))))
  where
    go : 6 ≤ length s → get_or s 2 0 ≡ 0xD0 → (x : Result DssType Refused) → type_at (get_or s 3 0) 0 ≡ x → head_with s 0 x ≡ Ok h
        → reframed s payload ≡ written (sent_of h payload)
    go six m (Ok t) q k =
        let w : head_was s t ≡ h = cc in
        kept s t o six m q (ap (λ (x : DssHeader). x.flags.continue_on_error) w ∙ c) d payload ∙ ap (λ (x : DssHeader). written (sent_of x payload)) w
    go six m (Err r) q k = absurd (found_refused h r (sym k))

-- ---- met, and needed

-- a request by its format byte
abbrev given : ℕ → List ℕ
given format = 0 ∷ 10 ∷ 0xD0 ∷ format ∷ 0x12 ∷ 0x34 ∷ 0 ∷ 4 ∷ 0x20 ∷ 0x0D ∷ []

abbrev read : Bool → DssHeader
read c =
    record { length = 10; dss_type = Request; flags = record { chained = true; continue_on_error = c; same_correlation = true }; correlation_id = 0x1234 }

met : reframed (given 0x51) (7 ∷ []) ≡ written (sent_of (read false) (7 ∷ []))
met = head_kept (given 0x51) (read false) (octets_tested (given 0x51) refl) refl refl refl (7 ∷ [])

-- what the writer lays down has another format byte
differs : (format : ℕ) (h : DssHeader) → eqb format (type_byte h.dss_type + flags_byte (head_of (sent_of h []) 0).flags) ≡ false
    → reframed (given format) [] ≡ written (sent_of h []) → ⊥
unfolding reframed
differs format h t e = eqb-false format _ t (ap (λ (l : List ℕ). get_or l 3 0) e)

-- with continue on error set the frame after isn't what the writer lays down, which never sets it
pub clear_needed : ((s : List ℕ) (h : DssHeader) → Octets s → head_at s 0 ≡ Ok h → bit 0x80 (get_or s 3 0) ≡ false
    → (payload : List ℕ) → reframed s payload ≡ written (sent_of h payload)) → ⊥
clear_needed f = differs 0x71 (read true) refl (f (given 0x71) (read true) (octets_tested (given 0x71) refl) refl refl [])

-- nor with 0x80 set, which the reader drops
pub high_needed : ((s : List ℕ) (h : DssHeader) → Octets s → head_at s 0 ≡ Ok h → h.flags.continue_on_error ≡ false
    → (payload : List ℕ) → reframed s payload ≡ written (sent_of h payload)) → ⊥
high_needed f = differs 0xD1 (read false) refl (f (given 0xD1) (read false) (octets_tested (given 0xD1) refl) refl refl [])
