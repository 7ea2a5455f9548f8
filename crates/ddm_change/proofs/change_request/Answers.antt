-- `ddm_change::change_request` meets its contract: what is planned is laid down where it fits.
use Prim.Native.Nat.{ℕ, ◌≤◌}
use native.Mathlib.Omega.{arith}
use mathlib.Core.Path.{◌≡◌, refl, sym, ◌∙◌, ap}
use mathlib.Core.List.{List}
use lib.ListN.{length}
use Rattle.wire.specs.Bytes.{splice, laid}
use Rattle.wire.proofs.Splicing.{laid_fits}
use Rattle.answer.specs.Rooms.{capped}
use Rattle.dss_frame.specs.Written.{frame_size}
use Rattle.ddm_builder.specs.Built.{built_size}
use Rattle.ddm_change.specs.Request.{reframed}
use Rattle.ddm_change.proofs.ChangeLaws.{capped_exact, capped_fits, lays_none, lays_some}
use Rattle.ddm_change.proofs.Reframing.{reframed_length}
use Rattle.ddm_change.specs.inner.Planning.{payload_after, data_size, LayingRequest}
use Rattle.ddm_change.proofs.LaidOut.{framed, payload_total, payload_length, capped_frame, request_laid}
use Rattle.ddm_change.specs.declared.Plan.{Plan}
use Rattle.ddm_change.proofs.change_request.Goals as goal

laid_over : (r b after : List ℕ) → length b ≤ length r → after ≡ splice r 0 b → after ≡ laid r 0 b
laid_over r b after h e = e ∙ sym (laid_fits r 0 b (omega arith))

-- the frame after
module _ (frame new : List ℕ) (cp : ℕ) (p : Plan) (planned : LayingRequest frame cp (length new) p) where
  abbrev after : List ℕ
  after = reframed frame (payload_after p cp new)

  after_length : (n : ℕ) → length (payload_after p cp new) ≡ n → length after ≡ frame_size n
  after_length n e = reframed_length frame (payload_after p cp new) (framed frame cp (length new) p planned) ∙ ap frame_size e

pub returns-then-room-need : goal.returns-then-room-need
returns-then-room-need c =
    let a = c.args in
    let p = c.in_ok-plan.plan in
    let l : LayingRequest a.frame.now a.code_point (length a.new.now) p = c.in_ok-plan.ensures in
    let n = built_size (data_size p (length a.new.now)) in
    let need = c.frame_size-need.ensures ∙ ap (λ (m : ℕ). capped (frame_size m)) l.size ∙ capped_frame n in
    rw (c.no_room.ensures, need)
    (request_laid a.frame.now a.code_point a.new.now a.room.now (after a.frame.now a.new.now a.code_point p l) _ _ (l.comes a.new.now refl)
    (lays_none _ a.room.now (frame_size n) (after_length a.frame.now a.new.now a.code_point p l n (payload_total a.frame.now p a.code_point a.new.now l)) (omega (arith, need, c.if-room-need.true))))

pub returns : goal.returns
returns c =
    let a = c.args in
    let p = c.in_ok-plan.plan in
    let l : LayingRequest a.frame.now a.code_point (length a.new.now) p = c.in_ok-plan.ensures in
    let n = p.payload_len in
    let roomy : frame_size n ≤ length a.room.now = capped_fits _ _ (omega (arith, c.frame_size-need.ensures, c.if-room-need.false)) (omega arith) in
    let y = after_length a.frame.now a.new.now a.code_point p l n (payload_length a.frame.now p a.code_point a.new.now a.room.now l roomy (omega arith)) in
    rw (capped_exact (frame_size n) _ c.frame_size-need.ensures (omega (arith, roomy)))
    (request_laid a.frame.now a.code_point a.new.now a.room.now (after a.frame.now a.new.now a.code_point p l) _ _ (l.comes a.new.now refl)
    (lays_some (after a.frame.now a.new.now a.code_point p l) a.room.now (frame_size n) y _ roomy
    (laid_over a.room.now (after a.frame.now a.new.now a.code_point p l) _ (omega (arith, roomy, y))
    (c.lay.ensures ∙ ap (λ (s : List ℕ). splice a.room.now 0 (reframed s (payload_after p a.code_point a.new.now))) l.frame_is))))
