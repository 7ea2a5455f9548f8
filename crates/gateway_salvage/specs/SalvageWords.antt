-- The salvage reading for a caller in C or Rust: what is answered in words, and what the lent room and the lent row then hold.
use Rattle.std.specs.Prelude.{ℕ, List, length, Result, Ok, Err}
use Rattle.wire.specs.Bytes.{landed, joined}
use Rattle.dss_frame.specs.Salvage.{salvaged}
use Rattle.dss_salvage.specs.SalvageEntries.{salvaged_bytes, salvaged_row}
use Rattle.dss_salvage_call.specs.SalvageCall.{entries_fit, given_entries}
use Rattle.dss_salvage.specs.declared.Entry.{Entry}
use Rattle.dss_salvage.specs.declared.Entry.TheVariants.{Frame, Refused as Refuses}
use Rattle.dss_salvage.specs.declared.SalvageEntry.{SalvageEntry}
use Rattle.gateway_words.specs.AnswerWords.{refusal_words, done_words, LeavesRow}
use Rattle.gateway_row.specs.RowWords.{record_words, refused_words, places}
use Rattle.answer.specs.declared.Refused.{Refused}
use Rattle.dss_salvage.specs.declared.Salvaging.{Salvaging}

-- "Entries are listed in order, one record each, a refusal's without payload": a frame's first word is 0, a refusal's its number; the
-- last two say where it stood
abbrev pub words_of : Entry → List ℕ
words_of (Frame f) = record_words f
words_of (Refuses r p e) = refused_words r p e

abbrev pub entry_words : SalvageEntry → List ℕ
entry_words e = words_of e.entry

-- how many entries, how many bytes their payloads have, the tail's place; "the one refusal of the call is 9"
abbrev pub salvaged_words : Result Salvaging Refused → List ℕ
salvaged_words (Ok m) = done_words m.count m.bytes m.tail 0
salvaged_words (Err r) = refusal_words r

-- what salvaging a run answers, and what the lent words, room and row then hold
abbrev pub SalvagesInWords : List ℕ → List ℕ → List ℕ → List ℕ → ℕ → List ℕ → List ℕ → List ℕ → Type 0
SalvagesInWords s room row =
    LeavesRow (salvaged_words (given_entries s (length room) (places row) (salvaged s)))
    (landed (entries_fit s (salvaged s).entries (length room) (places row)) room (salvaged_bytes s (salvaged s).entries))
    (landed (entries_fit s (salvaged s).entries (length room) (places row)) row (joined entry_words (salvaged_row s 0 (salvaged s).entries)))
