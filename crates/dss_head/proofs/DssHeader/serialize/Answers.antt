-- `dss_head::DssHeader::serialize` meets its contract: its parts are laid down one behind the other where there is room for six bytes.
use Prim.Native.Nat.{ℕ, ◌+◌, ◌≤◌}
use native.Mathlib.Omega.{arith}
use Rattle.std.proofs.Common.{rules, Err}
use mathlib.Core.Path.{◌≡◌, refl, sym, ap, ◌∙◌}
use mathlib.Core.List.{List, [], ◌∷◌, ◌++◌}
use lib.ListN.{length}
use lib.Seq.{sets}
use borrow.Author.Tests.{le-leb}
use Rattle.answer.proofs.RoomLaws.{room_enough, lays_refused}
use Rattle.wire.specs.Bytes.{two, splice}
use Rattle.wire.proofs.WireLaws.{pick_yes}
use Rattle.wire.proofs.Splicing.{splice_length, splice_splice, sets_splice, laid_fits}
use Rattle.wire.proofs.LentParts.{tail, tail_length, next}
use Rattle.dss_head.specs.Heads.{head_bytes}
use Rattle.dss_head.proofs.DssHeader.serialize.Goals as goal

pub returns-in_err-room_for : goal.returns-in_err-room_for
returns-in_err-room_for c =
    let e = lays_refused (head_bytes c.args.self) c.args.room.now c.in_err-room_for.field-0.0 (sym c.in_err-room_for.ensures) in
    let r : c.from_residual.result ≡ Err c.in_err-room_for.field-0.0 = search rules in
    rw r e

pub returns : goal.returns
returns c =
    let h = c.args.self in
    let r : List ℕ = c.args.room.now in
    let s : List ℕ = c.put_u16.new.room in
    let x : List ℕ = two h.length in
    let y : List ℕ = two h.correlation_id in
    let m : List ℕ = 0xD0 ∷ (c.to_byte.result + c.to_byte-2.result) ∷ [] in
    let g : x ++ (m ++ y) ≡ head_bytes h = rw (c.to_byte.ensures, c.to_byte-2.ensures) in
    let k : 6 ≤ length r = room_enough (length r) 6 (sym c.in_ok-room_for.ensures) in
    let d : s ≡ splice r 0 x = c.put_u16.ensures ∙ laid_fits r 0 x (omega arith) in
    let l : length s ≡ length r = ap length d ∙ splice_length r 0 x (omega arith) in
    let e : sets s 2 m ≡ splice r 0 (x ++ m) =
    sets_splice m s 2 (omega arith) ∙ ap (λ (t : List ℕ). splice t 2 m) d ∙ splice_splice r 0 x m (omega arith) in
    let n : length (sets s 2 m) ≡ length r = ap length e ∙ splice_length r 0 (x ++ m) (omega arith) in
    let f = tail_length (sets s 2 m) 4 in
    record {
      answers = sym (pick_yes _ _ (le-leb 6 (length r) k));
      room_is = next r 0 (x ++ m) (sets s 2 m) 4 c.put_u16-2.new.room y (omega arith) e refl (c.put_u16-2.ensures ∙ laid_fits (tail (sets s 2 m) 4) 0 y (omega arith))
          ∙ ap (splice r 0) g ∙ sym (laid_fits r 0 (head_bytes h) (omega arith));
    }
