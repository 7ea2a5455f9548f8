-- The list of an input is at most 720,000 bytes: in a room of that many, as the programs lend, it is always laid down.
use Rattle.std.specs.Prelude.{Result, Ok, Err}
use Prim.Native.Nat.{ℕ, zero, suc, ◌+◌, ◌*◌, ◌-◌, ◌≤◌}
use native.Mathlib.Omega.{arith}
use mathlib.Core.Path.{◌≡◌, refl, ap, ◌∙◌}
use mathlib.Core.List.{List, ◌++◌}
use lib.Dec.{ltb, leb}
use lib.ListN.{length, take, length-append}
use borrow.Author.Tests.{ltb-false, leb-true, leb-false, le-leb}
use contract.Lifetimes.{Lfts}
use denote.Ref.{Bor, MutBor, at_last}
use Rattle.wire.specs.Bytes.{be16, splice, Octets}
use Rattle.wire.proofs.WireLaws.{by, pick_by, pick_yes}
use Rattle.wire.proofs.Splicing.{laid_fits, splice_written}
use Rattle.answer.specs.Numbers.{not_whole}
use Rattle.answer.specs.Rooms.{Lays}
use Rattle.answer.specs.declared.Refused.{Refused}
use Rattle.dss_frame.specs.declared.Rules.{Rules}
use Rattle.dss_frame.specs.declared.Rules.TheVariants.{Reader, Salvage}
use Rattle.dss_frame.specs.Segments.{Walk, end_of, frame_walk}
use Rattle.dss_frame.specs.Reading.{Frame, Read, frame, refused, read_at}
use Rattle.dss_frame.specs.Salvage.{Salvaged, entry, stop, at_walk, salvage_fuel, salvaged}
use Rattle.dss_laws.proofs.Bounds.{OfWhole, is_whole, is_short, is_dead, Six, walk_six, OfFrame, is_frame, Past, read_past}
use Rattle.dss_laws.proofs.Thin.{Thin, read_thin}
use Rattle.lines.specs.Lines.{refused_text}
use Rattle.listing.specs.ListTexts.{frame_line, end_line, line_on, lines_fuel, lines_from, frames_text, entry_line, salvaged_text, salvage_text, list_text}
use Rattle.listing.proofs.ListLaws.{text_entry, text_stop, list_long, list_frames, list_salvage}
use Rattle.listing.proofs.list.Reads as list
use Rattle.listing.proofs.Sizes.{frame_size, end_size, refused_size}
use Rattle.listing.proofs.Modest.{Modest, a_frame, a_refusal, read_modest}

-- the line of a refused entry and the end line: the most that comes behind the last frame
abbrev last : ℕ
last = 53

module _ (s : List ℕ) (o : Octets s) (few : length s ≤ 65536) where
  -- ---- lines

  -- what a reading at p gives: a frame, or a refusal
  data Given (p : ℕ) : Read → Type 0 where
    line : (f : Frame) → length (frame_line s p f) ≤ 60 → p + 6 ≤ end_of p f.segments → end_of p f.segments ≤ length s → Given p (frame f)
    none : (r : Refused) → length (refused_text r) ≤ 32 → Given p (refused r)

  given : (rules : Rules) (p : ℕ) → p ≤ length s → Given p (read_at rules s p)
  given rules p h = of_read (read_at rules s p) (read_modest s o rules p h) (read_past rules s p) (read_thin rules s p)
    where
      of_read : (r : Read) → Modest s p r → OfFrame (Past s p (p + 6)) r → OfFrame (λ (f : Frame). Thin s p f.segments) r → Given p r
      of_read r (a_frame f a b) (is_frame f₁ c) (is_frame f₂ d) =
          line f (frame_size p f.head _ _ (omega arith) (omega arith) (omega arith) (omega arith)) c.0 c.1
      of_read r (a_refusal x k) c d = none x (refused_size x k.number (omega arith) k.value)

  end_few : (p : ℕ) → p ≤ length s → length (end_line s p) ≤ 21
  end_few p h = end_size p (length s - p) (omega arith) (omega arith)

  -- from p on a text has at most ten bytes for each byte of the run, and the last lines
  abbrev Fits : ℕ → List ℕ → Type 0
  Fits p t = length t ≤ 10 * (length s - p) + last

  fits_end : (p : ℕ) → p ≤ length s → Fits p (end_line s p)
  fits_end p h = omega (arith, end_few p h)

  -- a line, and on from six bytes further at least
  fits_more : (p q : ℕ) (x t : List ℕ) → length x ≤ 60 → p + 6 ≤ q → q ≤ length s → Fits q t → Fits p (x ++ t)
  fits_more p q x t h i j k = omega (arith, length-append x t)

  -- ---- framelist

  lines_fit : (f p : ℕ) → p ≤ length s → Fits p (lines_fuel f s p)
  unfolding lines_fuel
  lines_fit zero p h = fits_end p h
  lines_fit (suc f) p h = on_line (read_at Reader s p) (given Reader p h) (λ q i. lines_fit f q i)
    where
      on_line : (r : Read) → Given p r → ((q : ℕ) → q ≤ length s → Fits q (lines_fuel f s q)) → Fits p (line_on s p r (λ q. lines_fuel f s q))
      on_line r (line x a b c) go = fits_more p (end_of p x.segments) (frame_line s p x) _ a b c (go (end_of p x.segments) c)
      on_line r (none x a) go = pick_by (Fits p) (not_whole x.why) (end_line s p) (refused_text x) (λ e. fits_end p h) (λ e. omega arith)

  frames_fit : length (frames_text s) ≤ 10 * length s + last
  unfolding frames_text lines_from
  frames_fit = omega (arith, lines_fit (suc (length s)) 0 (omega arith))

  -- ---- salvagelist

  abbrev Salvages : ℕ → Salvaged → Type 0
  Salvages p x = Fits p (salvaged_text s x)

  salvages_stop : (p : ℕ) → p ≤ length s → Salvages p (stop p)
  salvages_stop p h = rw text_stop (fits_end p h)

  salvages_more : (p e : ℕ) (r : Read) (x : Salvaged) → length (entry_line s p r) ≤ 60 → p + 6 ≤ e → e ≤ length s → Salvages e x → Salvages p (entry p e r x)
  salvages_more p e r x h i j k = rw text_entry (fits_more p e (entry_line s p r) (salvaged_text s x) h i j k)

  salvages_last : (p : ℕ) (r : Refused) → p ≤ length s → length (refused_text r) ≤ 32 → Salvages p (entry p p (refused r) (stop p))
  salvages_last p r h k = rw (text_entry, text_stop) (omega (arith, length-append (refused_text r) (end_line s p), end_few p h))

  salvages_fit : (f p : ℕ) → p ≤ length s → Salvages p (salvage_fuel f s p)
  unfolding salvage_fuel
  salvages_fit zero p h = salvages_stop p h
  salvages_fit (suc f) p h = on_walk (frame_walk Salvage s p) (read_at Salvage s p) (walk_six Salvage s p) (given Salvage p h) (λ q i. salvages_fit f q i)
    where
      on_walk : (w : Walk) (r : Read) → OfWhole (Six s p) w → Given p r → ((q : ℕ) → q ≤ length s → Salvages q (salvage_fuel f s q))
          → Salvages p (at_walk s p w r (λ q. salvage_fuel f s q))
      on_walk w r (is_whole gs k) (line x a b c) go = salvages_more p (end_of p x.segments) (frame x) _ a b c (go (end_of p x.segments) c)
      on_walk w r (is_whole gs k) (none x a) go =
          pick_by (Salvages p) (ltb (be16 s p) 6) _ _ (λ e. salvages_last p x h a)
          (λ e. salvages_more p (end_of p gs) (refused x) _ (omega arith) (k.0 (ltb-false _ _ e)) k.1 (go (end_of p gs) k.1))
      on_walk w r is_short g go = salvages_stop p h
      on_walk w r (is_dead q) g go = salvages_stop p h

  salvage_fits : length (salvage_text s) ≤ 10 * length s + last
  unfolding salvage_text salvaged
  salvage_fits = omega (arith, salvages_fit (suc (length s)) 0 (omega arith))

-- ---- both

pub fits : (rules : Rules) (s : List ℕ) → Octets s → length (list_text rules s) ≤ 720000
fits rules s o =
    by (leb (length s) 65536) (λ t. under rules (leb-true (length s) 65536 t))
    (λ t. omega (arith, ap length (list_long rules s (leb-false (length s) 65536 t))))
  where
    under : (x : Rules) → length s ≤ 65536 → length (list_text x s) ≤ 720000
    under Reader h = omega (arith, ap length (list_frames Reader s h refl), frames_fit s o h)
    under Salvage h = omega (arith, ap length (list_salvage Salvage s h refl), salvage_fits s o h)

-- ---- a room of 720,000 bytes, whatever the input

module _ (rules : Rules) (s room : List ℕ) (o : Octets s) (large : length room ≡ 720000) where
  there : 0 + length (list_text rules s) ≤ length room
  there = omega (arith, fits rules s o)

  -- the list is laid down
  pub never_short : {r : Result ℕ Refused} {after : List ℕ} → Lays (list_text rules s) room r after → r ≡ Ok (length (list_text rules s))
  never_short w = w.answers ∙ pick_yes _ _ (le-leb (length (list_text rules s)) (length room) (omega (arith, there)))

  -- and never refused
  pub never_refused : {x : Refused} {after : List ℕ} → Lays (list_text rules s) room (Err x) after → ⊥
  never_refused {x} w =
      let e : Err x ≡ Ok (length (list_text rules s)) = never_short w in
      let z : ◌≡◌ {A = ℕ} 0 1 = cc in
      omega arith

  -- as many bytes as are answered are the list
  pub shown : {r : Result ℕ Refused} {after : List ℕ} → Lays (list_text rules s) room r after → take (length (list_text rules s)) after ≡ list_text rules s
  shown w =
      let z : length (list_text rules s) ≡ 0 + length (list_text rules s) = omega arith in
      ap (take (length (list_text rules s))) (w.room_is ∙ laid_fits room 0 (list_text rules s) there)
      ∙ ap (λ (n : ℕ). take n (splice room 0 (list_text rules s))) z
      ∙ splice_written room 0 (list_text rules s) (omega arith)

-- over the contract itself
pub list_never_short : (κs : Lfts 2) (rules : Rules) (run : Bor (List ℕ)) (room : MutBor (List ℕ)) (r : Result ℕ Refused) (l : List ℕ) → Octets run.now → length room.now ≡ 720000
    → list.Post κs (rules, (run, (room, tt))) r (rules, (run, (at_last room l, tt))) → r ≡ Ok (length (list_text rules run.now))
list_never_short κs rules run room r l o h p = never_short rules run.now room.now o h p
