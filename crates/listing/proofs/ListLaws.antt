-- The equations of the lists, with the count gone.
use Prim.Native.Nat.{ℕ, zero, suc, ◌+◌, ◌-◌, ◌≤◌, ◌<◌}
use native.Mathlib.Omega.{arith}
use mathlib.Core.Path.{◌≡◌, refl, ap, ◌∙◌}
use mathlib.Core.Bool.{true, false}
use mathlib.Core.List.{List, ◌++◌, append_assoc}
use lib.ListN.{length}
use borrow.Author.Tests.{le-leb, lt-leb}
use Rattle.wire.proofs.WireLaws.{pick_yes, pick_no}
use Rattle.answer.specs.Numbers.{not_whole}
use Rattle.answer.specs.declared.Refused.{Refused}
use Rattle.text.specs.Texts.{text}
use Rattle.text.specs.declared.Text.{Text}
use Rattle.text.specs.inner.PutsText.{PutsText}
use Rattle.dss_frame.specs.declared.Rules.{Rules}
use Rattle.dss_frame.specs.declared.Rules.TheVariants.{Reader, Salvage}
use Rattle.dss_frame.specs.Segments.{end_of}
use Rattle.dss_frame.specs.Reading.{Read, frame, refused, read_at}
use Rattle.dss_frame.specs.Salvage.{Salvaged, entry, stop}
use Rattle.dss_laws.proofs.Bounds.{OfFrame, is_frame, is_refused, Past, read_past}
use Rattle.dss_laws.proofs.SalvageLaws.{salvaged_from, salvaged_from_lem}
use Rattle.dss_measure.specs.declared.FrameMeasure.{FrameMeasure}
use Rattle.dss_measure.proofs.Measures.{Measures}
use Rattle.dss_salvage.proofs.SalvageStepping.{OnFrame, OnOver, OnLast}
use Rattle.lines.specs.Lines.{frame_text, refused_text}
use Rattle.listing.specs.ListTexts.{frame_line, end_line, line_on, lines_fuel, lines_from, frames_text, entry_line, entry_lines, salvaged_text, salvage_text, lines_under, list_text}

-- ---- framelist

same_step : (s : List ℕ) (p : ℕ) (r : Read) (more less : ℕ → List ℕ) → OfFrame (Past s p (p + 6)) r
    → ((q : ℕ) → p + 6 ≤ q → q ≤ length s → more q ≡ less q) → line_on s p r more ≡ line_on s p r less
same_step s p r more less (is_frame f l) h = ap (λ (t : List ℕ). frame_line s p f ++ t) (h (end_of p f.segments) l.0 l.1)
same_step s p r more less (is_refused x) h = refl

-- fuel that suffices is as good as any other that does
enough : (f g : ℕ) (s : List ℕ) (p : ℕ) → length s - p < f → length s - p < g → lines_fuel f s p ≡ lines_fuel g s p
unfolding lines_fuel
enough zero g s p h k = absurd (omega arith)
enough (suc f) zero s p h k = absurd (omega arith)
enough (suc f) (suc g) s p h k =
    same_step s p (read_at Reader s p) (λ q. lines_fuel f s q) (λ q. lines_fuel g s q) (read_past Reader s p)
    (λ q l m. enough f g s q (omega arith) (omega arith))

-- what is read at a place, and on from there
lines_step : (s : List ℕ) (p : ℕ) → lines_from s p ≡ line_on s p (read_at Reader s p) (lines_from s)
unfolding lines_from lines_fuel
lines_step s p =
    same_step s p (read_at Reader s p) (λ q. lines_fuel (length s) s q) (lines_from s) (read_past Reader s p)
    (λ q l m. enough (length s) (suc (length s)) s q (omega arith) (omega arith))

-- the line of a measure
abbrev pub measure_line : ℕ → FrameMeasure → List ℕ
measure_line p m = frame_text p m.header m.segments m.payload_len

module _ (s : List ℕ) (p : ℕ) where
  pub lines_frame : (m : FrameMeasure) → Measures Reader s p m → lines_from s p ≡ measure_line p m ++ lines_from s m.end
  lines_frame m w =
      lines_step s p
      ∙ ap (λ (r : Read). line_on s p r (lines_from s)) w.reads
      ∙ ap (λ (x : FrameMeasure). measure_line p x ++ lines_from s x.end) w.same

  pub lines_end : (r : Refused) → read_at Reader s p ≡ refused r → not_whole r.why ≡ true → lines_from s p ≡ end_line s p
  lines_end r e k =
      lines_step s p ∙ ap (λ (x : Read). line_on s p x (lines_from s)) e ∙ pick_yes _ _ k

  pub lines_refused : (r : Refused) → read_at Reader s p ≡ refused r → not_whole r.why ≡ false → lines_from s p ≡ refused_text r
  lines_refused r e k = lines_step s p ∙ ap (λ (x : Read). line_on s p x (lines_from s)) e ∙ pick_no _ _ k

pub frames_from : (s : List ℕ) → frames_text s ≡ lines_from s 0
unfolding frames_text
frames_from s = refl

-- ---- salvagelist

-- from a place on
unfoldable pub salvages_from : List ℕ → ℕ → List ℕ
unfolding entry_lines salvaged_from
salvages_from s p = salvaged_text s (salvaged_from s p)

pub salvages_from_lem : (s : List ℕ) → salvage_text s ≡ salvages_from s 0
unfolding salvage_text salvages_from
salvages_from_lem s = ap (salvaged_text s) (salvaged_from_lem s)

pub text_entry : (s : List ℕ) (p e : ℕ) (r : Read) (x : Salvaged) → salvaged_text s (entry p e r x) ≡ entry_line s p r ++ salvaged_text s x
unfolding entry_lines
text_entry s p e r x = append_assoc (entry_line s p r) (entry_lines s x.entries) (end_line s x.tail)

pub text_stop : (s : List ℕ) (p : ℕ) → salvaged_text s (stop p) ≡ end_line s p
unfolding entry_lines
text_stop s p = refl

module _ (s : List ℕ) (p : ℕ) where
  pub salvages_frame : (m : FrameMeasure) → OnFrame s p m → salvages_from s p ≡ measure_line p m ++ salvages_from s m.end
  unfolding salvages_from
  salvages_frame m w =
      let f = w.measured.whole in
      ap (salvaged_text s) w.onward
      ∙ text_entry s p (end_of p f.segments) (frame f) (salvaged_from s (end_of p f.segments))
      ∙ ap (λ (x : FrameMeasure). measure_line p x ++ salvaged_text s (salvaged_from s x.end)) w.measured.same

  pub salvages_over : (r : Refused) (q : ℕ) → OnOver s p r q → salvages_from s p ≡ refused_text r ++ salvages_from s q
  unfolding salvages_from
  salvages_over r q w = ap (salvaged_text s) w.onward ∙ text_entry s p q (refused r) (salvaged_from s q)

  pub salvages_last : (r : Refused) → OnLast s p r → salvages_from s p ≡ refused_text r ++ end_line s p
  unfolding salvages_from
  salvages_last r w =
      ap (salvaged_text s) w.onward ∙ text_entry s p p (refused r) (stop p) ∙ ap (λ (t : List ℕ). refused_text r ++ t) (text_stop s p)

  pub salvages_end : salvaged_from s p ≡ stop p → salvages_from s p ≡ end_line s p
  unfolding salvages_from
  salvages_end e = ap (salvaged_text s) e ∙ text_stop s p

-- ---- both

pub list_long : (rules : Rules) (s : List ℕ) → 65536 < length s → list_text rules s ≡ text "input too long\n"
unfolding list_text
list_long rules s h = pick_no _ _ (lt-leb (length s) 65536 h)

pub list_frames : (rules : Rules) (s : List ℕ) → length s ≤ 65536 → rules ≡ Reader → list_text rules s ≡ frames_text s
unfolding list_text
list_frames rules s h e = pick_yes _ _ (le-leb (length s) 65536 h) ∙ ap (λ (x : Rules). lines_under x s) e

pub list_salvage : (rules : Rules) (s : List ℕ) → length s ≤ 65536 → rules ≡ Salvage → list_text rules s ≡ salvage_text s
unfolding list_text
list_salvage rules s h e = pick_yes _ _ (le-leb (length s) 65536 h) ∙ ap (λ (x : Rules). lines_under x s) e

pub puts_text_as : {x y : List ℕ} {before after : Text} → x ≡ y → PutsText y before after → PutsText x before after
puts_text_as e p = rw e p
