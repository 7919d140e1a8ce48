-- The sheet of rows in memory.
use Rattle.std.specs.Prelude.{ℕ, List}
use Rattle.rows.specs.declared.row_words.RowWords.{RowWords}
use Rattle.sheets.specs.Format.{sheet_bits, bytes_of}
use Rattle.rows.specs.Memory.{rows_of}

-- the sheet of rows that lie in memory
unfoldable pub sheet_of : ℕ → List RowWords → List ℕ
sheet_of width rows = bytes_of (sheet_bits width (rows_of width rows))
