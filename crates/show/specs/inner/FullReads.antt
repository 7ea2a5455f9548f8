-- How many bytes a reading gave, until the input ended, the buffer was full or a read failed.
use Rattle.std.specs.Prelude.{ℕ, Result, Ok, Err}
use Rattle.show.specs.declared.CutShort.{CutShort}

abbrev pub count_read : Result ℕ CutShort → ℕ
count_read (Ok n) = n
count_read (Err e) = e.count
