-- Parameters added one after the other, by the builder's calls and by the exported functions.
use Rattle.std.specs.Prelude.{ℕ, ◌≤◌, ◌≡◌, List, [], ◌∷◌, ◌++◌, length, get_or, Ok}
use contract.Lifetimes.{Lfts}
use denote.Ref.{Bor, MutBor, at_last}
use Rattle.gateway_words.specs.AnswerWords.{answer_len}
use Rattle.wire.specs.Bytes.{two, last}
use Rattle.ddm_builder.specs.Builder.{fresh_builder}
use Rattle.ddm_builder.specs.declared.DdmBuilder.{DdmBuilder}
use Rattle.ddm_builder.proofs.DdmBuilder.add_code_point.Reads as add_code_point
use Rattle.ddm_builder.proofs.DdmBuilder.add_u16.Reads as add_u16
use Rattle.ddm_builder.proofs.DdmBuilder.add_u32.Reads as add_u32
use Rattle.gateway_builder.proofs.lattrugone_builder_add_code_point.Reads as exported_add_code_point
use Rattle.gateway_builder.proofs.lattrugone_builder_add_u16.Reads as exported_add_u16
use Rattle.gateway_builder.proofs.lattrugone_builder_add_u32.Reads as exported_add_u32

-- by `DdmBuilder::add_code_point`, `add_u16` and `add_u32`, from a fresh builder on
pub data ByCalls (cp : ℕ) (start : List ℕ) : List (ℕ × List ℕ) → DdmBuilder → List ℕ → Type 0 where
  no_call : ByCalls cp start [] (fresh_builder cp) start
  call : {l : List (ℕ × List ℕ)} {b : DdmBuilder} {now : List ℕ} → ByCalls cp start l b now → (κs : Lfts 2) (c : ℕ) (d : Bor (List ℕ)) (room : MutBor (List ℕ)) (next : DdmBuilder) (after : List ℕ) → room.now ≡ now
      → add_code_point.Post κs (b, (c, (d, (room, tt)))) (Ok next) (b, (c, (d, (at_last room after, tt))))
      → ByCalls cp start (l ++ ((c, d.now) ∷ [])) next after
  call_u16 : {l : List (ℕ × List ℕ)} {b : DdmBuilder} {now : List ℕ} → ByCalls cp start l b now → (κs : Lfts 1) (c val : ℕ) (room : MutBor (List ℕ)) (next : DdmBuilder) (after : List ℕ) → room.now ≡ now
      → add_u16.Post κs (b, (c, (val, (room, tt)))) (Ok next) (b, (c, (val, (at_last room after, tt))))
      → ByCalls cp start (l ++ ((c, two val) ∷ [])) next after
  call_u32 : {l : List (ℕ × List ℕ)} {b : DdmBuilder} {now : List ℕ} → ByCalls cp start l b now → (κs : Lfts 1) (c val : ℕ) (room : MutBor (List ℕ)) (next : DdmBuilder) (after : List ℕ) → room.now ≡ now
      → add_u32.Post κs (b, (c, (val, (room, tt)))) (Ok next) (b, (c, (val, (at_last room after, tt))))
      → ByCalls cp start (l ++ ((c, last 4 val) ∷ [])) next after

-- by `lattrugone_builder_add_code_point`, `_add_u16` and `_add_u32`, from fill mark 0 on: the next fill mark stands in word 2
pub data ByWords (start : List ℕ) : List (ℕ × List ℕ) → ℕ → List ℕ → Type 0 where
  no_word : ByWords start [] 0 start
  word : {l : List (ℕ × List ℕ)} {fill : ℕ} {now : List ℕ} → ByWords start l fill now → (κs : Lfts 3) (c : ℕ) (d : Bor (List ℕ)) (room words : MutBor (List ℕ)) (after said : List ℕ) → room.now ≡ now
      → answer_len ≤ length words.now
      → exported_add_code_point.Post κs (fill, (c, (d, (room, (words, tt))))) 0 (fill, (c, (d, (at_last room after, (at_last words said, tt)))))
      → ByWords start (l ++ ((c, d.now) ∷ [])) (get_or said 2 0) after
  word_u16 : {l : List (ℕ × List ℕ)} {fill : ℕ} {now : List ℕ} → ByWords start l fill now → (κs : Lfts 2) (c val : ℕ) (room words : MutBor (List ℕ)) (after said : List ℕ) → room.now ≡ now
      → answer_len ≤ length words.now
      → exported_add_u16.Post κs (fill, (c, (val, (room, (words, tt))))) 0 (fill, (c, (val, (at_last room after, (at_last words said, tt)))))
      → ByWords start (l ++ ((c, two val) ∷ [])) (get_or said 2 0) after
  word_u32 : {l : List (ℕ × List ℕ)} {fill : ℕ} {now : List ℕ} → ByWords start l fill now → (κs : Lfts 2) (c val : ℕ) (room words : MutBor (List ℕ)) (after said : List ℕ) → room.now ≡ now
      → answer_len ≤ length words.now
      → exported_add_u32.Post κs (fill, (c, (val, (room, (words, tt))))) 0 (fill, (c, (val, (at_last room after, (at_last words said, tt)))))
      → ByWords start (l ++ ((c, last 4 val) ∷ [])) (get_or said 2 0) after
