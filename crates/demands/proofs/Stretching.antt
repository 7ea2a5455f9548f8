-- W-201 over the definitions: the records of all frames, and those of a salvage reading, stood one behind the other, and their payloads
-- come from there, whatever the run.
use Prim.Native.Nat.{ℕ, zero, suc, ◌+◌, ◌≤◌}
use native.Mathlib.Omega.{arith}
use mathlib.Core.Path.{◌≡◌, refl, sym, subst, ◌∙◌}
use mathlib.Core.Bool.{false}
use mathlib.Core.List.{List, [], ◌∷◌, ◌++◌, map, append_assoc}
use lib.Dec.{ltb, leb}
use lib.ListN.{length, take, drop}
use lib.Seq.{take_at}
use borrow.Author.Tests.{leb-true}
use Rattle.wire.specs.Bytes.{be16, splice}
use Rattle.wire.proofs.WireLaws.{by, pick_by, pick_no, picked}
use Rattle.wire.proofs.Places.{here_next, here_part}
use Rattle.answer.specs.Numbers.{not_whole}
use Rattle.answer.specs.Rooms.{out_of_bounds}
use Rattle.dss_frame.specs.declared.Rules.TheVariants.{Reader, Salvage}
use Rattle.dss_frame.specs.Segments.{Walk, whole, short, dead, payload_of, end_of, frame_walk}
use Rattle.dss_frame.specs.Reading.{Frame, Read, frame, refused, read_at}
use Rattle.dss_frame.specs.Frames.{AllRead, frames, refused_all, before, and_on, all_frames}
use Rattle.dss_frame.specs.FrameRecords.{frame_record, frame_records, payloads_of, read_bytes}
use Rattle.dss_frame.specs.Salvage.{Entry, Salvaged, at_walk, salvage_fuel, salvaged}
use Rattle.dss_frame.specs.Following.{Follow, ComesFrom, Each}
use Rattle.dss_laws.proofs.Bounds.{OfFrame, is_frame, is_refused, Past, read_past}
use Rattle.dss_laws.proofs.FramesLaws.{frames_step, frames_refused}
use Rattle.dss_laws.proofs.Linked.{read_comes}
use Rattle.dss_row.proofs.FrameRowLaws.{Onward, frames_onward}
use Rattle.dss_salvage.specs.SalvageEntries.{entry_at, starts_in, ends_in, salvaged_bytes, salvaged_row}
use Rattle.dss_salvage.specs.declared.SalvageEntry.{SalvageEntry}
use Rattle.demands.specs.Demands.{Gapless, InOrder}
use Rattle.demands.specs.Stretches.{Stood, FrameInside, FramesStood, EntryInside, EntriesStood}
use Rattle.demands.proofs.Covering.{covers}

-- ---- lists

-- what was laid into a row is what the row starts with
pub row_first : {A : Type 0} (row xs : List A) (n : ℕ) → length xs ≡ n → take n (splice row 0 xs) ≡ xs
unfolding splice
row_first row xs n e = take_at xs (drop (0 + length xs) row) n e

-- the same records in another form, which says of each where it stood and of its payload what the first says
pub stood_map : {A B : Type 0} (from to : A → ℕ) (from' to' : B → ℕ) (P : A → Type 0) (Q : B → Type 0) (f : A → B)
    → ((x : A) → from' (f x) ≡ from x) → ((x : A) → to' (f x) ≡ to x) → ((x : A) → P x → Q (f x))
    → (s : List ℕ) (p end : ℕ) (xs : List A) → Stood from to P s p end xs → Stood from' to' Q s p end (map f xs)
unfolding Follow Each
stood_map {A} {B} from to from' to' P Q f i j k s p end xs w = record { follow = followed xs p w.follow; inside = w.inside; payloads = each xs w.payloads }
  where
    followed : (ys : List A) (q : ℕ) → Follow from to q ys end → Follow from' to' q (map f ys) end
    followed [] q h = h
    followed (y ∷ ys) q h = (i y ∙ h.0, omega (arith, i y, j y, h.1), subst (λ (n : ℕ). Follow from' to' n (map f ys) end) (sym (j y)) (followed ys (to y) h.2))

    each : (ys : List A) → Each P ys → Each Q (map f ys)
    each [] h = tt
    each (y ∷ ys) h = (k y h.0, each ys h.1)

-- ---- all frames

-- beyond the run it is 10
beyond : (s : List ℕ) (p : ℕ) → leb p (length s) ≡ false → read_at Reader s p ≡ refused (out_of_bounds p (length s))
unfolding read_at
beyond s p t = pick_no _ _ t

-- where none is left, the reading ended, inside the run
none_left : (s : List ℕ) (p q : ℕ) → all_frames s p ≡ frames [] q → (p ≡ q) × (q ≤ length s)
none_left s p q e =
    by (leb p (length s))
    (λ t. let z : p ≡ q = of_read (read_at Reader s p) (sym (frames_step s p) ∙ e) in (z, omega (arith, leb-true p (length s) t)))
    (λ t. let k : frames [] q ≡ refused_all (out_of_bounds p (length s)) = sym e ∙ frames_refused s p (out_of_bounds p (length s)) (beyond s p t) refl in
    let z : ◌≡◌ {A = ℕ} 0 1 = cc in absurd (omega arith))
  where
    of_frame : (g : Frame) (a : AllRead) → before g a ≡ frames [] q → p ≡ q
    of_frame g (frames gs r) k = let z : ◌≡◌ {A = ℕ} 0 1 = cc in absurd (omega arith)
    of_frame g (refused_all r) k = let z : ◌≡◌ {A = ℕ} 0 1 = cc in absurd (omega arith)

    of_read : (r : Read) → and_on p r (all_frames s) ≡ frames [] q → p ≡ q
    of_read (frame g) k = of_frame g (all_frames s (end_of p g.segments)) k
    of_read (refused r) k = picked (not_whole r.why) k (λ t z. cc) (λ t z. let y : ◌≡◌ {A = ℕ} 0 1 = cc in absurd (omega arith))

-- where a frame that is read ends, and where its payload comes from
pub record Whole (s : List ℕ) (p : ℕ) (f : Frame) : Type 0 where
  pub on : p ≤ end_of p f.segments
  pub there : end_of p f.segments ≤ length s
  pub comes : ComesFrom s p (end_of p f.segments) (payload_of s f.segments)

pub whole_read : (s : List ℕ) (p : ℕ) (f : Frame) → read_at Reader s p ≡ frame f → Whole s p f
whole_read s p f e = of_read (read_at Reader s p) e (read_past Reader s p) (read_comes Reader s p)
  where
    of_read : (r : Read) → r ≡ frame f → OfFrame (Past s p (p + 6)) r → OfFrame (λ (g : Frame). ComesFrom s p (end_of p g.segments) (payload_of s g.segments)) r → Whole s p f
    of_read r i (is_frame g k) (is_frame g₁ l) =
        let same : g ≡ f = cc in
        subst (Whole s p) same (record { on = omega (arith, k); there = k.1; comes = l })
    of_read r i (is_refused x) l = let z : ◌≡◌ {A = ℕ} 0 1 = cc in absurd (omega arith)

-- a frame's payload in the room
pub payload_stood : (s room rest : List ℕ) (p a : ℕ) (f : Frame) → ComesFrom s p (end_of p f.segments) (payload_of s f.segments)
    → drop a room ≡ payload_of s f.segments ++ rest → FrameInside s room (frame_record s p a f)
payload_stood s room rest p a f k d =
    subst (ComesFrom s p (end_of p f.segments)) (sym (here_part room (payload_of s f.segments) rest a (a + length (payload_of s f.segments)) d (omega arith))) k

pub frames_stood : (fs : List Frame) (s room rest : List ℕ) (p a q : ℕ) → all_frames s p ≡ frames fs q → drop a room ≡ payloads_of s fs ++ rest
    → FramesStood s room p q (frame_records s p a fs)
unfolding frame_records payloads_of Follow Each
frames_stood [] s room rest p a q e d = let k : (p ≡ q) × (q ≤ length s) = none_left s p q e in record { follow = k.0; inside = k.1; payloads = tt }
frames_stood (f ∷ fs) s room rest p a q e d =
    let w : Onward s p f fs q = frames_onward s p f fs q e in
    let b : List ℕ = payload_of s f.segments in
    let d₁ : drop a room ≡ b ++ (payloads_of s fs ++ rest) = d ∙ append_assoc b (payloads_of s fs) rest in
    let others : FramesStood s room (end_of p f.segments) q (frame_records s (end_of p f.segments) (a + length b) fs) =
    frames_stood fs s room rest (end_of p f.segments) (a + length b) q w.onward (here_next room b (payloads_of s fs ++ rest) a (a + length b) d₁ refl) in
    let x : Whole s p f = whole_read s p f w.reads in
    record {
      follow = (refl, x.on, others.follow);
      inside = others.inside;
      payloads = (payload_stood s room (payloads_of s fs ++ rest) p a f x.comes d₁, others.payloads);
    }

-- ---- salvage

-- an entry that is a frame stood at that frame's segments, and its payload comes from there
abbrev SoundRead : List ℕ → ℕ → ℕ → Read → Type 0
SoundRead s p e (frame f) = (end_of p f.segments ≡ e) × ComesFrom s p e (payload_of s f.segments)
SoundRead s p e (refused r) = Unit {0}

abbrev Sound : List ℕ → Entry → Type 0
Sound s e = SoundRead s e.at e.end e.read

abbrev AllSound : List ℕ → Salvaged → Type 0
AllSound s x = Each (Sound s) x.entries

fuel_sound : (f : ℕ) (s : List ℕ) (p : ℕ) → AllSound s (salvage_fuel f s p)
unfolding salvage_fuel Each
fuel_sound zero s p = tt
fuel_sound (suc f) s p = by_walk (frame_walk Salvage s p) (read_at Salvage s p) (read_comes Salvage s p) (λ q. fuel_sound f s q)
  where
    by_walk : (w : Walk) (r : Read) → OfFrame (λ (g : Frame). ComesFrom s p (end_of p g.segments) (payload_of s g.segments)) r → ((q : ℕ) → AllSound s (salvage_fuel f s q))
        → AllSound s (at_walk s p w r (λ q. salvage_fuel f s q))
    by_walk short r k go = tt
    by_walk (dead q) r k go = tt
    by_walk (whole gs) r (is_frame g k) go = ((refl, k), go (end_of p g.segments))
    by_walk (whole gs) r (is_refused x) go = pick_by (AllSound s) (ltb (be16 s p) 6) _ _ (λ e. (tt, tt)) (λ e. (tt, go (end_of p gs)))

-- one entry's record
record One (s room : List ℕ) (p e : ℕ) (x : SalvageEntry) : Type 0 where
  starts : starts_in x.entry ≡ p
  ends : ends_in x.entry ≡ e
  payload : EntryInside s room x.entry

one_entry : (s room rest : List ℕ) (p e a : ℕ) (r : Read) → SoundRead s p e r → drop a room ≡ read_bytes s r ++ rest → One s room p e (entry_at s a p e r)
one_entry s room rest p e a (frame f) k d =
    record { starts = refl; ends = k.0; payload = payload_stood s room rest p a f (subst (λ (n : ℕ). ComesFrom s p n (payload_of s f.segments)) (sym k.0) k.1) d }
one_entry s room rest p e a (refused r) k d = record { starts = refl; ends = refl; payload = tt }

entries_stood : (es : List Entry) (s room rest : List ℕ) (p a t : ℕ) → Gapless p es t → InOrder es → Each (Sound s) es → t ≤ length s → drop a room ≡ salvaged_bytes s es ++ rest
    → EntriesStood s room p t (salvaged_row s a es)
unfolding Gapless InOrder Each Follow salvaged_bytes salvaged_row
entries_stood [] s room rest p a t g o k h d = record { follow = g; inside = h; payloads = tt }
entries_stood (e ∷ es) s room rest p a t g o k h d =
    let b : List ℕ = read_bytes s e.read in
    let d₁ : drop a room ≡ b ++ (salvaged_bytes s es ++ rest) = d ∙ append_assoc b (salvaged_bytes s es) rest in
    let x : SalvageEntry = entry_at s a e.at e.end e.read in
    let w : One s room e.at e.end x = one_entry s room (salvaged_bytes s es ++ rest) e.at e.end a e.read k.0 d₁ in
    let others : EntriesStood s room e.end t (salvaged_row s (a + length b) es) =
    entries_stood es s room rest e.end (a + length b) t g.1 o.1 k.1 h (here_next room b (salvaged_bytes s es ++ rest) a (a + length b) d₁ refl) in
    record {
      follow = (
        w.starts ∙ g.0,
        omega (arith, w.starts, w.ends, o.0),
        subst (λ (n : ℕ). Follow (λ (y : SalvageEntry). starts_in y.entry) (λ (y : SalvageEntry). ends_in y.entry) n (salvaged_row s (a + length b) es) t) (sym w.ends) others.follow,
      );
      inside = h;
      payloads = (w.payload, others.payloads);
    }

all_sound : (s : List ℕ) → AllSound s (salvaged s)
unfolding salvaged
all_sound s = fuel_sound (suc (length s)) s 0

pub salvaged_stood : (s room rest : List ℕ) → room ≡ salvaged_bytes s (salvaged s).entries ++ rest → EntriesStood s room 0 (salvaged s).tail (salvaged_row s 0 (salvaged s).entries)
salvaged_stood s room rest d = entries_stood (salvaged s).entries s room rest 0 0 (salvaged s).tail (covers s).gapless (covers s).in_order (all_sound s) (covers s).inside d
