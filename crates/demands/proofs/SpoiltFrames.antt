-- A spoilt frame is framed as before, and its head is refused wherever it stands.
use Rattle.std.specs.Prelude.{Err}
use Prim.Native.Nat.{ℕ, ◌+◌, ◌*◌, ◌-◌, ◌≤◌, ◌<◌}
use native.Mathlib.Omega.{arith}
use mathlib.Core.Path.{◌≡◌, refl, ap, ◌∙◌}
use mathlib.Core.Logic.{inl, inr}
use mathlib.Core.List.{List, [], ◌∷◌, ◌++◌}
use lib.Dec.{eqb}
use lib.ListN.{length, get_or, drop}
use borrow.Author.Tests.{eqb-true, eqb-false}
use Rattle.wire.specs.Bytes.{be16}
use Rattle.wire.proofs.WireLaws.{by, be16_same}
use Rattle.answer.specs.declared.Refused.{Refused}
use Rattle.dss_head.specs.Heads.{head_at, head_with}
use Rattle.dss_head.proofs.TypeLaws.{type_none}
use Rattle.dss_frame.specs.Written.{Sent, written}
use Rattle.dss_measure.proofs.GlanceLaws.{headed}
use Rattle.demands.specs.Demands.{Spoilt, LengthField}
use Rattle.demands.specs.NoReply.{SpoiltHead, RefusesSpoilt}
use Rattle.dss_laws.proofs.Framed.{Framed, single, several}
use Rattle.dss_laws.proofs.WritingLaws.{framed_written}
use Rattle.dss_head.proofs.HeadLaws.{moved_to, found_refused, head_magic, head_typed}
use Rattle.dss_laws.proofs.HeadFields.{head_moved}
use Rattle.demands.proofs.WrittenFrames.{framed_six}

kept_two : (f : Sent) (b : List ℕ) → Spoilt written f b → (k : ℕ) → LengthField f k → LengthField f (k + 1) → be16 b k ≡ be16 (written f) k
kept_two f b x k l m = be16_same b (written f) k k (x.lengths_kept k l) (x.lengths_kept (k + 1) m)

kept_later : (f : Sent) (b : List ℕ) → Spoilt written f b → 32761 < length f.payload → (i : ℕ) → be16 b ((i + 1) * 32767) ≡ be16 (written f) ((i + 1) * 32767)
kept_later f b x h i =
    kept_two f b x ((i + 1) * 32767) (inr (record { i = i; several = h; at = (omega arith, omega arith) })) (inr (record { i = i; several = h; at = (omega arith, omega arith) }))

framed_kept : (f : Sent) (b : List ℕ) → Spoilt written f b → Framed (length f.payload) (written f) → Framed (length f.payload) b
framed_kept f b x (single h e w) = single h (x.length_kept ∙ e) (kept_two f b x 0 (inl (omega arith)) (inl (omega arith)) ∙ w)
framed_kept f b x (several k r e lo hi w) =
    let h : 32761 < length f.payload = omega arith in
    several k r e lo hi
    (record {
      size = x.length_kept ∙ w.size;
      starts = kept_two f b x 0 (inl (omega arith)) (inl (omega arith)) ∙ w.starts;
      full = λ i l. kept_later f b x h i ∙ w.full i l;
      last = kept_later f b x h k ∙ w.last;
    })

pub framed_spoilt : (f : Sent) (b : List ℕ) → Spoilt written f b → Framed (length f.payload) b
framed_spoilt f b x = framed_kept f b x (framed_written f)

pub head_spoilt : (f : Sent) (b : List ℕ) (x : Spoilt written f b) (s rest : List ℕ) (p : ℕ) → drop p s ≡ b ++ rest → head_at s p ≡ Err (record { why = x.reason.why; place = p })
head_spoilt f b x s rest p d = head_moved s b rest p d (framed_six (framed_spoilt f b x)) ∙ ap (moved_to p) x.head_refused

-- ---- W-210, "demand 3's spoilt type is outside 1 to 5": what makes a head be refused

pub refuses_spoilt : RefusesSpoilt head_at
refuses_spoilt b six = (there, back)
  where
    left : 6 ≤ length b - 0
    left = omega arith

    there : record { reason : Refused; is : head_at b 0 ≡ Err reason } → SpoiltHead b
    there x =
        by (eqb (get_or b 2 0) 0xD0)
        (λ u. inr (λ l h. let w = headed b 0 left (eqb-true (get_or b 2 0) 0xD0 u) l h in found_refused w.head x.reason (w.found ∙ x.is)))
        (λ u. inl (eqb-false (get_or b 2 0) 0xD0 u))

    back : SpoiltHead b → record { reason : Refused; is : head_at b 0 ≡ Err reason }
    back (inl n) = record { reason = _; is = head_magic b 0 left n }
    back (inr n) =
        by (eqb (get_or b 2 0) 0xD0)
        (λ u. record { reason = _; is = head_typed b 0 left (eqb-true (get_or b 2 0) 0xD0 u) ∙ ap (head_with b 0) (type_none (get_or b 3 0) 0 n) })
        (λ u. record { reason = _; is = head_magic b 0 left (eqb-false (get_or b 2 0) 0xD0 u) })

-- a type of 6 is spoilt, and a type of 5 isn't: such a head is refused, and such a one isn't
spoilt_met : record { reason : Refused; is : head_at (0 ∷ 6 ∷ 0xD0 ∷ 6 ∷ 0 ∷ 1 ∷ []) 0 ≡ Err reason }
spoilt_met = (refuses_spoilt (0 ∷ 6 ∷ 0xD0 ∷ 6 ∷ 0 ∷ 1 ∷ []) (omega arith)).1 (inr (λ l h. omega arith))

five_unspoilt : SpoiltHead (0 ∷ 6 ∷ 0xD0 ∷ 5 ∷ 0 ∷ 1 ∷ []) → ⊥
five_unspoilt (inl n) = n refl
five_unspoilt (inr n) = n (omega arith) (omega arith)
