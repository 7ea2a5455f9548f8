-- `ddm_change::laying::Laying::piece` meets its contract: the frame's size up to the piece is a place in the room, so it is counted exactly.
use Prim.Native.Nat.{ℕ, ◌+◌}
use native.Mathlib.Omega.{arith}
use mathlib.Core.Path.{◌≡◌, sym, ap, ap₂, ◌∙◌}
use mathlib.Core.List.{List}
use lib.ListN.{length}
use Rattle.wire.specs.Bytes.{laid}
use Rattle.dss_frame.specs.Written.{frame_size}
use Rattle.ddm_length.proofs.LentData.{lent_laid}
use Rattle.ddm_change.specs.declared.laying.Laying.{Laying}
use Rattle.ddm_change.proofs.ChangeLaws.{capped_exact}
use Rattle.ddm_change.proofs.Lying.{outlaid_fits, lays_between, lays_starting}
use Rattle.ddm_change.proofs.laying.Laying.piece.Goals as goal
use Rattle.ddm_change.proofs.laying.Laying.piece.Goals.{then-starts_at, else-starts_at}

pub slice_bounds-put_u16-count : goal.slice_bounds-put_u16-count
slice_bounds-put_u16-count c =
    let s = c.args.self.now in
    let fits = outlaid_fits s.len s.at c.args.bytes.now s.room.now c.requires.inside s.fits in
    let marked : c.frame_size-mark.result ≡ frame_size s.at = capped_exact (frame_size s.at) _ c.frame_size-mark.ensures (omega (arith, fits)) in
    omega (arith, fits)

pub slice_bounds-put_u16-start : goal.slice_bounds-put_u16-start
slice_bounds-put_u16-start c =
    let s = c.args.self.now in
    let fits = outlaid_fits s.len s.at c.args.bytes.now s.room.now c.requires.inside s.fits in
    let marked : c.frame_size-mark.result ≡ frame_size s.at = capped_exact (frame_size s.at) _ c.frame_size-mark.ensures (omega (arith, fits)) in
    omega (arith, fits)

pub overflow_add-mark : goal.overflow_add-mark
overflow_add-mark c =
    let s = c.args.self.now in
    let fits = outlaid_fits s.len s.at c.args.bytes.now s.room.now c.requires.inside s.fits in
    let marked : c.frame_size-mark.result ≡ frame_size s.at = capped_exact (frame_size s.at) _ c.frame_size-mark.ensures (omega (arith, fits)) in
    omega (arith, fits)

pub returns : goal.returns
returns c =
    let s = c.args.self.now in
    let b = c.args.bytes.now in
    let p = c.requires in
    let fits = outlaid_fits s.len s.at b s.room.now p.inside s.fits in
    let marked : c.frame_size-mark.result ≡ frame_size s.at = capped_exact (frame_size s.at) _ c.frame_size-mark.ensures (omega (arith, fits)) in
    elim c.if-starts_at.branch [
      | then-starts_at w ↦ record {
        room_is =
            c.lay_at.ensures
            ∙ ap₂ (λ (r : List ℕ) (m : ℕ). laid r m b) (ap (λ (x : Laying). x.room.now) w.self-is) w.mark-is
            ∙ lays_starting s.room.now b s.len s.at p.some p.whole p.inside s.fits _ w.raw_at.result _ marked w.raw_at.ensures
            (sym c.starts_at.ensures ∙ w.if-starts_at.true) (lent_laid s.room.now _ _ _ (omega (arith, fits)) w.put_u16.ensures);
        next = ap (λ (x : Laying). x.at + length b) w.self-is;
        same_len = ap (λ (x : Laying). x.len) w.self-is;
        same_room = ap (λ (x : Laying). x.room.ghost_name) w.self-is;
      }
      | else-starts_at w ↦ record {
        room_is =
            c.lay_at.ensures
            ∙ ap₂ (λ (r : List ℕ) (m : ℕ). laid r m b) (ap (λ (x : Laying). x.room.now) w.self-is) w.mark-is
            ∙ lays_between s.room.now b s.len s.at p.some p.whole p.inside s.fits _ marked (sym c.starts_at.ensures ∙ w.if-starts_at.false);
        next = ap (λ (x : Laying). x.at + length b) w.self-is;
        same_len = ap (λ (x : Laying). x.len) w.self-is;
        same_room = ap (λ (x : Laying). x.room.ghost_name) w.self-is;
      }
    ]
