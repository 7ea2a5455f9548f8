-- What measuring a salvage reading answers, computed from the definition's list of entries, and its laws.
use Prim.Native.Nat.{ℕ, ◌+◌}
use native.Mathlib.Nat.{add_assoc}
use native.Mathlib.Numerals.{one-add}
use native.Mathlib.Omega.{arith}
use mathlib.Core.Path.{◌≡◌, refl, sym, ap, ap₂, ◌∙◌}
use mathlib.Core.List.{List}
use lib.ListN.{length, length-append}
use Rattle.answer.specs.declared.Refused.{Refused}
use Rattle.dss_frame.specs.Segments.{end_of}
use Rattle.dss_frame.specs.Reading.{Read, frame, refused}
use Rattle.dss_frame.specs.Salvage.{Salvaged, entry, stop, salvaged}
use Rattle.dss_laws.proofs.SalvageLaws.{salvaged_from, salvaged_from_lem}
use Rattle.dss_measure.specs.declared.FrameMeasure.{FrameMeasure}
use Rattle.dss_salvage.specs.declared.Salvaging.{Salvaging}
use Rattle.dss_frame.specs.FrameRecords.{read_bytes}
use Rattle.dss_salvage.specs.SalvageEntries.{salvaged_bytes}
use Rattle.dss_salvage.proofs.SalvageStepping.{OnFrame, OnOver, OnLast}
use Rattle.dss_salvage.specs.inner.SalvageMeasure.{counted, salvaging_of}

-- behind so many entries with so much payload
abbrev pub adds_to : ℕ → ℕ → Salvaging → Salvaging
adds_to k n v = counted (k + v.count) (n + v.bytes) v.tail

-- ---- laws

made : (k k' n n' t : ℕ) → k ≡ k' → n ≡ n' → counted k n t ≡ counted k' n' t
made k k' n n' t a b = ap₂ (λ (x y : ℕ). counted x y t) a b

adds_adds : (k n k' n' : ℕ) (v : Salvaging) → adds_to k n (adds_to k' n' v) ≡ adds_to (k + k') (n + n') v
adds_adds k n k' n' v = made _ _ _ _ v.tail (sym (add_assoc k k' v.count)) (sym (add_assoc n n' v.bytes))

-- one entry before others
one_before : (s : List ℕ) (p e : ℕ) (r : Read) (x : Salvaged) → salvaging_of s (entry p e r x) ≡ adds_to 1 (length (read_bytes s r)) (salvaging_of s x)
unfolding salvaged_bytes
one_before s p e r x = made _ _ _ _ x.tail (sym (one-add (length x.entries))) (length-append (read_bytes s r) (salvaged_bytes s x.entries))

none_left : (s : List ℕ) (k n p : ℕ) → adds_to k n (salvaging_of s (stop p)) ≡ counted k n p
unfolding salvaged_bytes
none_left s k n p = made _ _ _ _ p (omega arith) (omega arith)

-- the whole reading, behind nothing
pub salvaging_start : (s : List ℕ) → salvaging_of s (salvaged s) ≡ adds_to 0 0 (salvaging_of s (salvaged_from s 0))
salvaging_start s = ap (salvaging_of s) (salvaged_from_lem s) ∙ made _ _ _ _ (salvaged_from s 0).tail (omega arith) (omega arith)

module _ (s : List ℕ) (p k n : ℕ) where
  more : (e : ℕ) (r : Read) (x : Salvaged) → salvaged_from s p ≡ entry p e r x → adds_to k n (salvaging_of s (salvaged_from s p)) ≡ adds_to (k + 1) (n + length (read_bytes s r)) (salvaging_of s x)
  more e r x i =
      ap (λ (y : Salvaged). adds_to k n (salvaging_of s y)) i ∙ ap (adds_to k n) (one_before s p e r x) ∙ adds_adds k n 1 (length (read_bytes s r)) (salvaging_of s x)

  -- one frame more
  pub salvaging_frame : (m : FrameMeasure) → OnFrame s p m → adds_to k n (salvaging_of s (salvaged_from s p)) ≡ adds_to (k + 1) (n + m.payload_len) (salvaging_of s (salvaged_from s m.end))
  salvaging_frame m w =
      let f = w.measured.whole in
      more (end_of p f.segments) (frame f) (salvaged_from s (end_of p f.segments)) w.onward
      ∙ ap (λ (x : FrameMeasure). adds_to (k + 1) (n + x.payload_len) (salvaging_of s (salvaged_from s x.end))) w.measured.same

  without : (v : Salvaging) → adds_to (k + 1) (n + 0) v ≡ adds_to (k + 1) n v
  without v = made _ _ _ _ v.tail refl (omega arith)

  -- one refusal more, without payload
  pub salvaging_over : (r : Refused) (q : ℕ) → OnOver s p r q → adds_to k n (salvaging_of s (salvaged_from s p)) ≡ adds_to (k + 1) n (salvaging_of s (salvaged_from s q))
  salvaging_over r q w = more q (refused r) (salvaged_from s q) w.onward ∙ without (salvaging_of s (salvaged_from s q))

  pub salvaging_last : (r : Refused) → OnLast s p r → adds_to k n (salvaging_of s (salvaged_from s p)) ≡ counted (k + 1) n p
  salvaging_last r w = more p (refused r) (stop p) w.onward ∙ without (salvaging_of s (stop p)) ∙ none_left s (k + 1) n p

  pub salvaging_end : salvaged_from s p ≡ stop p → adds_to k n (salvaging_of s (salvaged_from s p)) ≡ counted k n p
  salvaging_end i = ap (λ (y : Salvaged). adds_to k n (salvaging_of s y)) i ∙ none_left s k n p
