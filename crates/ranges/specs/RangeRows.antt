-- What the calls on a range answer, and how memory is read.
use Rattle.std.specs.Prelude.{ℕ, cond, List, length, take, Ok, Err, Result, nat_le}
use Rattle.covers.specs.Symbols.{Symbols}
use Rattle.covers.specs.Rules.{rows_of_range}
use Rattle.rows.specs.declared.refusal.Refusal.{Refusal}
use Rattle.rows.specs.declared.refusal.Refusal.TheVariants.{NumberOutsideWidth, MemoryTooShort}
use Rattle.rows.specs.declared.row_words.RowWords.{RowWords}
use Rattle.rows.specs.Memory.{rows_of}
use Rattle.rows.specs.Widths.{in_width}

-- the number of rows of the range; refused first if an end is no number of the width, then if memory has too few places
abbrev pub range_answer : ℕ → ℕ → ℕ → ℕ → Result ℕ Refusal
range_answer n first last places =
    cond (in_width n first last)
    (cond (nat_le (length (rows_of_range n first last)) places) (Ok (length (rows_of_range n first last))) (Err MemoryTooShort))
    (Err NumberOutsideWidth)

-- the first k rows that stand in memory, each read by making
abbrev pub rows_in : ℕ → ℕ → List RowWords → List Symbols
rows_in n k memory = rows_of n (take k memory)
