-- Any two outcomes that a contract of this crate allows are equal: the answer, every record of the row, every byte of the room or the
-- work area.
use Prim.Native.Nat.{ℕ}
use mathlib.Core.Path.{◌≡◌, sym, ◌∙◌}
use mathlib.Core.List.{List}
use contract.Lifetimes.{Lfts}
use denote.Ref.{Bor, MutBor, at_last}
use Rattle.std.specs.Prelude.{Result}
use Rattle.answer.specs.declared.Refused.{Refused}
use Rattle.dss_frame.specs.declared.DssFrame.{DssFrame}
use Rattle.dss_reader.specs.declared.DssReader.{DssReader}
use Rattle.dss_reader.specs.declared.FramesRead.{FramesRead}
use Rattle.dss_salvage.specs.declared.SalvageEntry.{SalvageEntry}
use Rattle.dss_salvage.specs.declared.Salvaging.{Salvaging}
use Rattle.ddm_object.specs.declared.DdmObject.{DdmObject}
use Rattle.ddm_rows.specs.declared.ObjectsFound.{ObjectsFound}
use Rattle.lent_rows.specs.declared.Listed.{Listed}
use Rattle.lent_rows.proofs.frames.frames_row.Reads as frames_row
use Rattle.lent_rows.proofs.entries.entries_row.Reads as entries_row
use Rattle.lent_rows.proofs.objects.objects_row.Reads as objects_row
use Rattle.lent_rows.proofs.objects.parameters_row.Reads as parameters_row

module _ (κs : Lfts 2) (run : Bor (List ℕ)) (room : MutBor (List ℕ)) (l l' : List ℕ) where
  pub frames_row_one : (d : DssReader) (b : DssFrame) (r r' : Listed (Result FramesRead Refused × DssReader) (List DssFrame))
      → frames_row.Post κs (d, (run, (room, (b, tt)))) r (d, (run, (at_last room l, (b, tt))))
      → frames_row.Post κs (d, (run, (room, (b, tt)))) r' (d, (run, (at_last room l', (b, tt)))) → (r ≡ r') × (l ≡ l')
  frames_row_one d b r r' p q = (λ i. record { answer = (p.answers ∙ sym q.answers) i; row = (p.row_is ∙ sym q.row_is) i }, p.room_is ∙ sym q.room_is)

  pub entries_row_one : (b : SalvageEntry) (r r' : Listed (Result Salvaging Refused) (List SalvageEntry))
      → entries_row.Post κs (run, (room, (b, tt))) r (run, (at_last room l, (b, tt)))
      → entries_row.Post κs (run, (room, (b, tt))) r' (run, (at_last room l', (b, tt))) → (r ≡ r') × (l ≡ l')
  entries_row_one b r r' p q = (λ i. record { answer = (p.answers ∙ sym q.answers) i; row = (p.row_is ∙ sym q.row_is) i }, p.room_is ∙ sym q.room_is)

  pub objects_row_one : (b : DdmObject) (r r' : Listed (Result ObjectsFound Refused) (List DdmObject))
      → objects_row.Post κs (run, (room, (b, tt))) r (run, (at_last room l, (b, tt)))
      → objects_row.Post κs (run, (room, (b, tt))) r' (run, (at_last room l', (b, tt))) → (r ≡ r') × (l ≡ l')
  objects_row_one b r r' p q = (λ i. record { answer = (p.answers ∙ sym q.answers) i; row = (p.row_is ∙ sym q.row_is) i }, p.work_is ∙ sym q.work_is)

  pub parameters_row_one : (b : DdmObject) (r r' : Listed (Result ObjectsFound Refused) (List DdmObject))
      → parameters_row.Post κs (run, (room, (b, tt))) r (run, (at_last room l, (b, tt)))
      → parameters_row.Post κs (run, (room, (b, tt))) r' (run, (at_last room l', (b, tt))) → (r ≡ r') × (l ≡ l')
  parameters_row_one b r r' p q = (λ i. record { answer = (p.answers ∙ sym q.answers) i; row = (p.row_is ∙ sym q.row_is) i }, p.work_is ∙ sym q.work_is)
