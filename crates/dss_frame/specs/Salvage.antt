-- The salvage reading: document 01, "Salvage reading".
use Rattle.std.specs.Prelude.{ℕ, zero, suc, List, [], ◌∷◌, ltb, length}
use Rattle.wire.specs.Bytes.{pick, be16}
use Rattle.dss_frame.specs.declared.Rules.TheVariants.{Salvage}
use Rattle.dss_frame.specs.Segments.{Segment, Walk, whole, short, dead, end_of, frame_walk}
use Rattle.dss_frame.specs.Reading.{Read, frame, refused, read_at}

-- what was read at a place, and the byte after its last: the end of a frame's segments, or where a refused one was stepped
-- over to, which is where it stands if its length is below 6
pub record Entry : Type 0 where
  pub at : ℕ
  pub end : ℕ
  pub read : Read

-- what a salvage reading hands out: entries in order, and the tail's place
pub record Salvaged : Type 0 where
  pub entries : List Entry
  pub tail : ℕ

abbrev pub entry : ℕ → ℕ → Read → Salvaged → Salvaged
entry p e r more = record { entries = record { at = p; end = e; read = r } ∷ more.entries; tail = more.tail }

abbrev pub stop : ℕ → Salvaged
stop p = record { entries = []; tail = p }

-- a frame is followed by what stands behind its segments; a refused one is stepped over to its end, and ends the walk where its length is below 6
abbrev pub onward : List ℕ → ℕ → List Segment → Read → (ℕ → Salvaged) → Salvaged
onward s p gs (frame f) more = entry p (end_of p f.segments) (frame f) (more (end_of p f.segments))
onward s p gs (refused r) more = pick (ltb (be16 s p) 6) (entry p p (refused r) (stop p)) (entry p (end_of p gs) (refused r) (more (end_of p gs)))

abbrev pub at_walk : List ℕ → ℕ → Walk → Read → (ℕ → Salvaged) → Salvaged
at_walk s p short r more = stop p
at_walk s p (dead q) r more = stop p
at_walk s p (whole gs) r more = onward s p gs r more

unfoldable pub salvage_fuel : ℕ → List ℕ → ℕ → Salvaged
unfolding end_of frame_walk read_at
salvage_fuel zero s p = stop p
salvage_fuel (suc fuel) s p = at_walk s p (frame_walk Salvage s p) (read_at Salvage s p) (λ q. salvage_fuel fuel s q)

-- "From byte 0"; each frame takes six bytes at least
unfoldable pub salvaged : List ℕ → Salvaged
unfolding salvage_fuel
salvaged s = salvage_fuel (suc (length s)) s 0
