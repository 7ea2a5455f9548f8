-- `dss_writer::lay_chunks` meets its contract: each chunk is laid into the tail behind those before it.
use Prim.Native.Nat.{ℕ, ◌+◌, ◌-◌, ◌*◌, ◌/◌, ◌<◌, ◌≤◌}
use native.Mathlib.Omega.{arith}
use mathlib.Core.Path.{◌≡◌, ap, ◌∙◌}
use mathlib.Core.List.{List, ◌++◌}
use lib.ListN.{length, take, drop, length-drop}
use lib.Seq.{length-take-le}
use Rattle.wire.specs.Bytes.{two, splice}
use Rattle.wire.proofs.LentParts.{tail, tail_drop, tail_length}
use Rattle.dss_writer.proofs.LayingLaws.{ChunkedLaid, chunked_none, chunk_room, chunked_more, last_room, chunked_last}
use Rattle.dss_writer.proofs.lay_chunks.Goals as goal

-- a chunk's part, as it is written in the code
span : (bytes : List ℕ) (from n : ℕ) → take (from + n - from) (drop from bytes) ≡ take n (drop from bytes)
span bytes from n = let e : from + n - from ≡ n = omega arith in rw e

pub loop-i-init : goal.loop-i-init
loop-i-init c = chunked_none c.args.bytes.now c.args.room.now

pub lay_chunk-requires : goal.lay_chunk-requires
lay_chunk-requires c =
    let all : List ℕ = c.args.bytes.now in
    let l = c.loop-i in
    let more : 32765 < length all - l.i * 32765 = omega arith in
    omega (
      arith,
      chunk_room _ _ _ _ _ c.requires l.invariant more,
      ap length (span all (l.i * 32765) 32765) ∙ length-take-le 32765 (drop (l.i * 32765) all) (omega (arith, length-drop (l.i * 32765) all)),
      tail_length l.room (l.i * 32767),
    )

pub loop-i-preserved : goal.loop-i-preserved
loop-i-preserved c =
    let all : List ℕ = c.args.bytes.now in
    let l = c.loop-i in
    let p = c.lay_chunk in
    let more : 32765 < length all - l.i * 32765 = omega arith in
    let from : (l.i + 1) * 32765 ≡ l.i * 32765 + 32765 = omega arith in
    let at : (l.i + 1) * 32767 ≡ l.i * 32767 + 32767 = omega arith in
    rw (from, at)
    (chunked_more all c.args.room.now l.room (l.i * 32765) (l.i * 32767) c.requires l.invariant more p.new.room
    (p.ensures ∙ ap (λ (y : List ℕ). splice (tail l.room (l.i * 32767)) 0 (two 65535 ++ y)) (span all (l.i * 32765) 32765)))

pub lay_chunk-requires-2 : goal.lay_chunk-requires-2
lay_chunk-requires-2 c =
    let all : List ℕ = c.args.bytes.now in
    let l = c.loop-i in
    let n : ℕ = c.saturating_sub-full.result / 32765 in
    let e : n ≡ l.i = omega arith in
    let chunked : ChunkedLaid all c.args.room.now l.room (n * 32765) (n * 32767) = rw e l.invariant in
    let last : length all - n * 32765 ≤ 32765 = omega arith in
    omega (arith, last_room _ _ _ _ _ c.requires chunked last, tail_length all (n * 32765), tail_length l.room (n * 32767))

pub returns : goal.returns
returns c =
    let all : List ℕ = c.args.bytes.now in
    let l = c.loop-i in
    let p = c.lay_chunk-2 in
    let n : ℕ = c.saturating_sub-full.result / 32765 in
    let e : n ≡ l.i = omega arith in
    let chunked : ChunkedLaid all c.args.room.now l.room (n * 32765) (n * 32767) = rw e l.invariant in
    let last : length all - n * 32765 ≤ 32765 = omega arith in
    let lays : ℕ → List ℕ → List ℕ = λ k y. splice (tail l.room (n * 32767)) 0 (two (k + 2) ++ y) in
    chunked_last all c.args.room.now l.room (n * 32765) (n * 32767) c.requires chunked last p.new.room
    (p.ensures ∙ ap (λ (y : List ℕ). lays (length y) y) (tail_drop all (n * 32765)) ∙ ap (λ (k : ℕ). lays k (drop (n * 32765) all)) (length-drop (n * 32765) all))
