-- Two frames written one behind the other stand joined in the room, and a writer that writes nothing breaks the contract. Both
-- are said of the contract of `write_dss_full` itself, which is named and not written again.
use Rattle.std.specs.Prelude.{Result, Ok}
use Prim.Native.Nat.{ℕ, ◌+◌, ◌≤◌}
use native.Mathlib.Omega.{arith}
use mathlib.Core.Path.{◌≡◌, refl, ap, ap₂, ◌∙◌}
use mathlib.Core.Bool.{Bool, true, false}
use mathlib.Core.List.{List, [], ◌∷◌, ◌++◌}
use lib.ListN.{length, get_or, replicate, length-append}
use contract.Lifetimes.{Lfts}
use denote.Ref.{Bor, MutBor, at_last}
use borrow.Author.Tests.{le-leb}
use Rattle.wire.specs.Bytes.{part, splice, laid}
use Rattle.wire.proofs.WireLaws.{pick_yes}
use Rattle.wire.proofs.Splicing.{splice_length, splice_splice, splice_part, laid_fits}
use Rattle.answer.specs.Rooms.{room_for}
use Rattle.dss_head.specs.declared.DssType.{DssType}
use Rattle.dss_head.specs.declared.DssType.TheVariants.{Request, Object}
use Rattle.dss_frame.specs.Written.{Sent, written}
use Rattle.dss_writer.specs.declared.DssWriter.{DssWriter}
use Rattle.dss_writer.specs.Writer.{sent, wrote_by, wrote, Writes}
use Rattle.dss_writer.proofs.DssWriter.write_dss_full.Reads as write_dss_full
use Rattle.answer.specs.declared.Refused.{Refused}

-- a writer whose fill mark moved on by n bytes
abbrev pub moved : DssWriter → ℕ → DssWriter
moved w n = record { correlation_id = w.correlation_id; fill = w.fill + n }

-- ---- one frame, with room

module _ (w : DssWriter) (f : Sent) (room : List ℕ) (r : Result DssWriter Refused) (l : List ℕ) (h : w.fill + length (written f) ≤ length room) (p : Writes w f room r l) where
  -- the writer comes back with its fill mark behind the frame
  pub room_done : r ≡ Ok (moved w (length (written f)))
  room_done =
      let enough : room_for w.fill (length room) (length (written f)) ≡ Ok tt =
      pick_yes _ _ (le-leb w.fill (length room) (omega arith)) ∙ pick_yes _ _ (le-leb (length (written f)) _ (omega arith)) in
      p.answers ∙ ap (wrote_by w (length (written f))) enough

  -- and the frame stands at the fill mark
  pub room_spliced : l ≡ splice room w.fill (written f)
  room_spliced = p.room_is ∙ laid_fits room w.fill (written f) h

  pub room_part : part l w.fill (w.fill + length (written f)) ≡ written f
  room_part = ap (λ (s : List ℕ). part s w.fill (w.fill + length (written f))) room_spliced ∙ splice_part room w.fill (written f) (omega arith)

-- ---- two frames

-- what the room holds after both, and what the two calls answer
pub record Joined (w v : DssWriter) (f g : Sent) (room : List ℕ) (r r' : Result DssWriter Refused) (l : List ℕ) : Type 0 where
  pub first : r ≡ Ok (moved w (length (written f)))
  pub second : r' ≡ Ok (record { correlation_id = v.correlation_id; fill = w.fill + length (written f ++ written g) })
  pub room_is : l ≡ splice room w.fill (written f ++ written g)

-- over the record that the contract cites. v is the writer that came back, whatever its correlation was set to
writes_joined : (w v : DssWriter) (f g : Sent) (room : List ℕ) (r r' : Result DssWriter Refused) (l l' : List ℕ)
    → w.fill + length (written f ++ written g) ≤ length room → v.fill ≡ w.fill + length (written f)
    → Writes w f room r l → Writes v g l r' l' → Joined w v f g room r r' l'
writes_joined w v f g room r r' l l' h e p q =
    let n : length (written f ++ written g) ≡ length (written f) + length (written g) = length-append (written f) (written g) in
    let a : w.fill + length (written f) ≤ length room = omega arith in
    let s : length l ≡ length room = ap length (room_spliced w f room r l a p) ∙ splice_length room w.fill (written f) a in
    let b : v.fill + length (written g) ≤ length l = omega arith in
    record {
      first = room_done w f room r l a p;
      second =
          room_done v g l r' l' b q
          ∙ ap (λ (k : ℕ). Ok (record { correlation_id = v.correlation_id; fill = k })) (omega arith);
      room_is =
          room_spliced v g l r' l' b q
          ∙ ap₂ (λ (s : List ℕ) (k : ℕ). splice s k (written g)) (room_spliced w f room r l a p) e
          ∙ splice_splice room w.fill (written f) (written g) (omega arith);
    }

pub joined : (κs κs' : Lfts 2) (w v : DssWriter) (t t' : DssType) (chained chained' same same' : Bool) (payload payload' : Bor (List ℕ)) (room again : MutBor (List ℕ)) (r r' : Result DssWriter Refused) (l l' : List ℕ)
    → let f = sent w.correlation_id t chained same payload.now in
    let g = sent v.correlation_id t' chained' same' payload'.now in
    w.fill + length (written f ++ written g) ≤ length room.now → v.fill ≡ w.fill + length (written f) → again.now ≡ l
    → write_dss_full.Post κs (w, (t, (chained, (same, (payload, (room, tt)))))) r (w, (t, (chained, (same, (payload, (at_last room l, tt))))))
    → write_dss_full.Post κs' (v, (t', (chained', (same', (payload', (again, tt)))))) r' (v, (t', (chained', (same', (payload', (at_last again l', tt))))))
    → Joined w v f g room.now r r' l'
joined κs κs' w v t t' chained chained' same same' payload payload' room again r r' l l' h e k p q =
    let f = sent w.correlation_id t chained same payload.now in
    let g = sent v.correlation_id t' chained' same' payload'.now in
    writes_joined w v f g room.now r r' l l' h e p (rw k at q)

-- the definitions on a small room: two frames from the fill mark 2 on, and the bytes before and behind stay
abbrev f₀ : Sent
f₀ = sent 7 Request true true (0xAA ∷ [])

abbrev g₀ : Sent
g₀ = sent 7 Object false false (0xBB ∷ 0xCC ∷ [])

abbrev room₀ : List ℕ
room₀ = replicate 18 9

joined_example : (wrote (record { correlation_id = 7; fill = 2 }) 18 (length (written f₀)) ≡ Ok (record { correlation_id = 7; fill = 9 }))
    × (wrote (record { correlation_id = 7; fill = 9 }) 18 (length (written g₀)) ≡ Ok (record { correlation_id = 7; fill = 17 }))
    × (laid (laid room₀ 2 (written f₀)) 9 (written g₀)
    ≡ 9 ∷ 9 ∷ 0 ∷ 7 ∷ 0xD0 ∷ 0x51 ∷ 0 ∷ 7 ∷ 0xAA ∷ 0 ∷ 8 ∷ 0xD0 ∷ 0x03 ∷ 0 ∷ 7 ∷ 0xBB ∷ 0xCC ∷ 9 ∷ [])
unfolding written laid
joined_example = (refl, refl, refl)

-- ---- a writer that writes nothing

-- the room has room, and something else stood there: then the room can't be as it was
pub nothing_written : (w : DssWriter) (f : Sent) (room : List ℕ) (r : Result DssWriter Refused) → w.fill + length (written f) ≤ length room
    → (part room w.fill (w.fill + length (written f)) ≡ written f → ⊥) → Writes w f room r room → ⊥
nothing_written w f room r h other p = other (room_part w f room r room h p)

-- the same of the contract
pub nothing_written_post : (κs : Lfts 2) (w : DssWriter) (t : DssType) (chained same : Bool) (payload : Bor (List ℕ)) (room : MutBor (List ℕ)) (r : Result DssWriter Refused)
    → let f = sent w.correlation_id t chained same payload.now in
    w.fill + length (written f) ≤ length room.now → (part room.now w.fill (w.fill + length (written f)) ≡ written f → ⊥)
    → write_dss_full.Post κs (w, (t, (chained, (same, (payload, (room, tt)))))) r (w, (t, (chained, (same, (payload, (at_last room room.now, tt))))))
    → ⊥
nothing_written_post κs w t chained same payload room r h other p =
    nothing_written w (sent w.correlation_id t chained same payload.now) room.now r h other p

-- such a room: its third byte would be the magic
nothing_written_example : (r : Result DssWriter Refused) → Writes (record { correlation_id = 7; fill = 2 }) f₀ room₀ r room₀ → ⊥
unfolding written
nothing_written_example r p =
    nothing_written (record { correlation_id = 7; fill = 2 }) f₀ room₀ r (omega arith)
    (λ e. let z : ◌≡◌ {A = ℕ} 9 0xD0 = ap (λ (s : List ℕ). get_or s 2 0) e in omega arith) p
