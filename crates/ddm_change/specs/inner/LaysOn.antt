-- What laying down the next bytes of a payload comes to, of the room and the payload's byte as they go from call to call.
use Rattle.std.specs.Prelude.{ℕ, ◌+◌, ◌≡◌, List, length}
use Rattle.wire.specs.Bytes.{splice}
use Rattle.dss_frame.specs.Written.{frame_size}
use Rattle.ddm_change.specs.inner.Outlay.{outlaid}
use Rattle.ddm_change.specs.declared.laying.Laying.{Laying}

-- The bytes are laid down as the payload's next, and the room is still the one that was lent.
pub record LaysOn (bytes : List ℕ) (before after : Laying) : Type 0 where
  pub room_is : after.room.now ≡ splice before.room.now (frame_size before.at) (outlaid before.len before.at bytes)
  pub next : after.at ≡ before.at + length bytes
  pub same_len : after.len ≡ before.len
  pub same_room : after.room.ghost_name ≡ before.room.ghost_name
