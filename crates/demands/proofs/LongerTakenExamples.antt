-- When a frame may be taken, by computation: why one must wait, what meets the rule, and what the rule by the chained flag rests
-- on; and what the statements rule out.
use Prim.Native.Nat.{ℕ}
use native.Mathlib.Omega.{arith}
use mathlib.Core.Path.{◌≡◌, refl, sym, ap, ◌∙◌}
use mathlib.Core.Logic.{◌⊎◌, inl, inr}
use mathlib.Core.Bool.{Bool, true, false}
use mathlib.Core.List.{List, [], ◌∷◌, ◌++◌}
use lib.Dec.{ltb}
use lib.ListN.{length}
use Rattle.wire.specs.Bytes.{pick}
use Rattle.wire.proofs.WireLaws.{true_false}
use Rattle.wire.proofs.OctetLaws.{octets_tested}
use Rattle.answer.specs.declared.Refusal.TheVariants.{Incomplete}
use Rattle.dss_head.specs.declared.DssType.{DssType}
use Rattle.dss_head.specs.declared.DssType.TheVariants.{Reply, Object}
use Rattle.dss_frame.specs.declared.Rules.TheVariants.{Reader}
use Rattle.dss_frame.specs.Segments.{Segment, payload_of, end_of, frame_walk, continuations, walk_fuel}
use Rattle.dss_frame.specs.Reading.{Read, Frame, frame, refused, read_at, absorb, absorb_fuel, look}
use Rattle.dss_reader.specs.Reader.{frame_end}
use Rattle.layouts.specs.DssLayout.{Structure, Allowed, Dss, one}
use Rattle.demands.proofs.Table.{p2}
use Rattle.demands.specs.Longer.{Settled, few_left, WholeBehindSettles, WaitingLosesNothing, clear}
use Rattle.demands.proofs.Longer.{same_framed}
use Rattle.demands.proofs.LongerTaken.{complete, reader_taken_stay, early_stay}
use Rattle.demands.proofs.LongerExamples.{reply, settled_before}

-- a frame with no payload but its segments'
abbrev handed : ℕ → DssType → Bool → Bool → List Segment → Frame
handed n type chained same gs = record {
  head = record { length = n; dss_type = type; flags = record { chained = chained; continue_on_error = false; same_correlation = same }; correlation_id = 1 };
  segments = record { at = 0; framing = 6; dropped = 0; end = n } ∷ gs;
}

-- ---- why one must wait: `000AD04300018004241B`, alone, and with `0009D01300017FFEC1` behind it

abbrev streamed : List ℕ
streamed = 0x00 ∷ 0x0A ∷ 0xD0 ∷ 0x43 ∷ 0x00 ∷ 0x01 ∷ 0x80 ∷ 0x04 ∷ 0x24 ∷ 0x1B ∷ []

abbrev goes_on : List ℕ
goes_on = 0x00 ∷ 0x09 ∷ 0xD0 ∷ 0x13 ∷ 0x00 ∷ 0x01 ∷ 0x7F ∷ 0xFE ∷ 0xC1 ∷ []

pub streamed_alone : read_at Reader streamed 0 ≡ frame (handed 10 Object true false [])
unfolding read_at absorb absorb_fuel look payload_of end_of frame_walk continuations walk_fuel
streamed_alone = refl

abbrev joined : Frame
joined = handed 10 Object false false (record { at = 10; framing = 6; dropped = 2; end = 19 } ∷ [])

pub streamed_longer : read_at Reader (streamed ++ goes_on) 0 ≡ frame joined
unfolding read_at absorb absorb_fuel look payload_of end_of frame_walk continuations walk_fuel
streamed_longer = refl

pub streamed_payload : payload_of (streamed ++ goes_on) joined.segments ≡ 0x80 ∷ 0x04 ∷ 0x24 ∷ 0x1B ∷ 0xC1 ∷ []
unfolding payload_of
streamed_payload = refl

-- no whole frame stood behind the first, so it had to wait
pub streamed_waits : complete streamed 10 ≡ false
unfolding frame_end frame_walk continuations walk_fuel end_of
streamed_waits = refl

-- how many segments a frame has
count : Frame → ℕ
count f = length f.segments

-- so no frame may be taken as it comes
pub must_wait : ((s t : List ℕ) (p : ℕ) (f : Frame) → read_at Reader s p ≡ frame f → read_at Reader (s ++ t) p ≡ frame f) → ⊥
unfolding count
must_wait stay =
    let e : handed 10 Object true false [] ≡ joined = same_framed _ _ (sym (stay streamed goes_on 0 (handed 10 Object true false []) streamed_alone) ∙ streamed_longer) in
    let z : ◌≡◌ {A = ℕ} 1 2 = ap count e in
    omega arith

-- ---- what meets the rule: two replies. Whatever follows, the first stays

pub whole_behind : complete (p2 ++ p2) (end_of 0 reply.segments) ≡ true
unfolding frame_end frame_walk continuations walk_fuel end_of
whole_behind = refl

pub reply_taken : (t : List ℕ) → read_at Reader (p2 ++ p2 ++ t) 0 ≡ frame reply
reply_taken t = (reader_taken_stay (p2 ++ p2) t 0 reply settled_before whole_behind).0

-- ---- by the chained flag: a reply that isn't chained

abbrev first : List ℕ
first = 0x00 ∷ 0x06 ∷ 0xD0 ∷ 0x02 ∷ 0x00 ∷ 0x01 ∷ []

pub first_alone : read_at Reader first 0 ≡ frame (handed 6 Reply false false [])
unfolding read_at absorb absorb_fuel look payload_of end_of frame_walk continuations walk_fuel
first_alone = refl

-- what has same correlation clear behind it leaves it as it is
pub first_stays : read_at Reader (first ++ p2) 0 ≡ frame (handed 6 Reply false false [])
unfolding end_of
first_stays = (early_stay first p2 0 (handed 6 Reply false false []) first_alone (clear _ refl refl)).0

-- `0006D0120001` behind it, same correlation set without chained, which no structure of the volume has: joined
pub first_joined : read_at Reader (first ++ (0x00 ∷ 0x06 ∷ 0xD0 ∷ 0x12 ∷ 0x00 ∷ 0x01 ∷ [])) 0 ≡ frame (handed 6 Reply false false (record { at = 6; framing = 6; dropped = 0; end = 12 } ∷ []))
unfolding read_at absorb absorb_fuel look payload_of end_of frame_walk continuations walk_fuel
first_joined = refl

-- `0006D0520001` behind it, the first of another chain, whose next has the same correlation: joined too, though both are
-- structures of the volume
abbrev next : List ℕ
next = 0x00 ∷ 0x06 ∷ 0xD0 ∷ 0x52 ∷ 0x00 ∷ 0x01 ∷ []

abbrev chain_joined : Frame
chain_joined = handed 6 Reply true false (record { at = 6; framing = 6; dropped = 0; end = 12 } ∷ [])

pub first_chain_joined : read_at Reader (first ++ next) 0 ≡ frame chain_joined
unfolding read_at absorb absorb_fuel look payload_of end_of frame_walk continuations walk_fuel
first_chain_joined = refl

abbrev replying : Bool → Structure
replying c = record { type = 2; chained = c; on_error = false; same = c; correlation = 1; payload = [] }

replying_allowed : (c : Bool) → Allowed (replying c)
replying_allowed c =
    record {
      type = (omega arith, omega arith);
      correlation = omega arith;
      payload = octets_tested [] refl;
      on_error_is = λ e. absurd (true_false false e refl);
      same = λ e. e;
    }

pub both_structures : Dss (replying false) first × Dss (replying true) next
both_structures = (one (replying_allowed false) (omega arith), one (replying_allowed true) (omega arith))

-- so a frame that isn't chained may not be taken for that reason alone
pub flag_not_enough : ((s t : List ℕ) (p : ℕ) (f : Frame) → read_at Reader s p ≡ frame f → f.head.flags.chained ≡ false → read_at Reader (s ++ t) p ≡ frame f) → ⊥
unfolding count
flag_not_enough stay =
    let e : handed 6 Reply false false [] ≡ chain_joined = same_framed _ _ (sym (stay first next 0 (handed 6 Reply false false []) first_alone refl) ∙ first_chain_joined) in
    let z : ◌≡◌ {A = ℕ} 1 2 = ap count e in
    omega arith

-- ---- what the statements rule out

-- a test that says that a whole frame stands everywhere
pub no_always : WholeBehindSettles (λ s q. true) → ⊥
unfolding end_of
no_always settles = go (settles first 0 (handed 6 Reply false false []) refl)
  where
    go : Settled first 0 (handed 6 Reply false false []) → ⊥
    go (inl e) = omega arith
    go (inr k) = k (few_left (omega arith))

-- a reader that has a frame while the run is short, and then says that it isn't whole
abbrev loser : List ℕ → ℕ → Read
loser s p = pick (ltb (length s) 7) (frame (handed 6 Reply false false [])) (refused (record { why = Incomplete; place = p }))

pub no_loser : WaitingLosesNothing loser → ⊥
no_loser nothing = go _ refl ((nothing first first 0 (handed 6 Reply false false []) refl).1 _ refl).0
  where
    go : (r : ℕ) → r ≡ 1 → (r ≡ 2) ⊎ ((r ≡ 3) ⊎ (r ≡ 7)) → ⊥
    go r e (inl k) = omega arith
    go r e (inr (inl k)) = omega arith
    go r e (inr (inr k)) = omega arith
