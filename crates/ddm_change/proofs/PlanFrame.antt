-- What is known of a request before it is laid down: its one frame.
use Rattle.std.specs.Prelude.{Ok, Err}
use Prim.Native.Nat.{ℕ, ◌≤◌}
use native.Mathlib.Omega.{arith}
use mathlib.Core.Path.{◌≡◌, refl, sym, ap, ◌∙◌}
use mathlib.Core.List.{List}
use lib.ListN.{length, take}
use Rattle.answer.specs.declared.Refused.{Refused}
use Rattle.dss_frame.specs.declared.Rules.TheVariants.{Reader}
use Rattle.dss_frame.specs.Segments.{Segment, payload_of, end_of}
use Rattle.dss_frame.specs.Reading.{Read, frame, refused}
use Rattle.ddm_object.specs.Objects.{parsed}
use Rattle.ddm_change.specs.Alone.{alone_at}
use Rattle.ddm_change.specs.Request.{refuses_it, place_in, request_object, request_read, request_of}
use Rattle.ddm_change.specs.inner.Carried.{SoundCarriage, carried, passed, place_of}
use Rattle.ddm_change.proofs.FramesCarried.{carriage_in, Carries, carries}
use Rattle.ddm_change.specs.inner.Planning.{alone, alone_of, Standing}
use Rattle.ddm_change.specs.declared.Carriage.{Carriage}
use Rattle.ddm_change.specs.declared.Alone.{Alone}

never : {P : Type 0} {a : Alone} {r : Refused} → Err r ≡ Ok a → P
never q = absurd (let z : ◌≡◌ {A = ℕ} 0 1 = cc in omega arith)

module _ (s : List ℕ) where
  pub standing : (a : Alone) → alone_of (alone_at Reader s 0) ≡ Ok a → Standing s a.end a.segments
  standing a q = go (alone_at Reader s 0) refl q
    where
      go : (r : Read) → alone_at Reader s 0 ≡ r → alone_of r ≡ Ok a → Standing s a.end a.segments
      go (frame f) i q =
          let z : alone (end_of 0 f.segments) (length f.segments) ≡ a = cc in
          record { one = f; read = i; ends = sym (ap (λ (x : Alone). x.end) z); many = sym (ap (λ (x : Alone). x.segments) z) }
      go (refused r) i q = never q

  -- 1 or 16, 2, 3, 7
  pub request_refused : (r : Refused) → alone_of (alone_at Reader s 0) ≡ Err r → (cp : ℕ) (new : List ℕ) → request_of s cp new ≡ refuses_it r
  unfolding request_of
  request_refused r q cp new = go (alone_at Reader s 0) q
    where
      go : (x : Read) → alone_of x ≡ Err r → request_read s cp new x ≡ refuses_it r
      go (frame f) q = never (sym q)
      go (refused r') q = let z : r' ≡ r = cc in ap refuses_it z

-- how the one frame carries its payload, and that the payload's object decides
pub record Decides (s : List ℕ) (end : ℕ) (c : Carriage) : Type 0 where
  pub segments : List Segment
  pub within : end ≤ length s
  pub ends : end_of 0 segments ≡ end
  pub sound : SoundCarriage c (take end s)
  pub payload_is : payload_of s segments ≡ carried c (take end s)
  pub places : (i : ℕ) → place_in 0 segments i ≡ place_of c i
  pub comes : (cp : ℕ) (new : List ℕ) → request_of s cp new ≡ request_object s cp new segments (parsed (payload_of s segments) 6)

pub place_first : (c : Carriage) → c.lead ≡ 6 → place_of c 0 ≡ 6
unfolding place_of passed
place_first c l = omega arith

pub standing_some : (s : List ℕ) (end segments : ℕ) → Standing s end segments → 1 ≤ segments
standing_some s end segments t = omega (arith, t.many, (carries s t.one t.read).some)

pub decides : (s : List ℕ) (end segments : ℕ) → Standing s end segments → Decides s end (carriage_in segments)
unfolding request_of
decides s end segments t =
    let gs : List Segment = t.one.segments in
    let k : Carries s t.one = carries s t.one t.read in
    let here : Decides s (end_of 0 gs) (carriage_in (length gs)) =
    record {
      segments = gs;
      within = k.within;
      ends = refl;
      sound = k.sound;
      payload_is = k.payload_is;
      places = k.places;
      comes = λ cp new.
          ap (request_read s cp new) t.read
          ∙ ap (λ (n : ℕ). request_object s cp new gs (parsed (payload_of s gs) n)) (k.places 0 ∙ place_first (carriage_in (length gs)) refl);
    } in
    rw (t.ends, t.many) here
