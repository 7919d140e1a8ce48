-- The rows of those of several ranges that lie within a width.
use Rattle.std.specs.Prelude.{ℕ, cond, List, [], length, Ok, Err, Result, nat_le}
use Rattle.std.specs.List.{flat_map}
use Rattle.covers.specs.Rules.{rows_of_range}
use Rattle.covers.specs.Symbols.{Symbols}
use Rattle.rows.specs.declared.refusal.Refusal.{Refusal}
use Rattle.rows.specs.declared.refusal.Refusal.TheVariants.{MemoryTooShort}
use Rattle.rows.specs.Widths.{in_width}

-- the list of a range, empty if an end is no number of the width
unfoldable pub rows_in_width : ℕ → ℕ × ℕ → List Symbols
rows_in_width n r = cond (in_width n r.0 r.1) (rows_of_range n r.0 r.1) []

-- the lists of several ranges, one after the other; one with an end outside is passed over
abbrev pub rows_of_ranges_within : ℕ → List (ℕ × ℕ) → List Symbols
rows_of_ranges_within n ranges = flat_map (rows_in_width n) ranges

-- the number of rows, refused if memory has too few places
abbrev pub rows_answer : List Symbols → ℕ → Result ℕ Refusal
rows_answer rows places = cond (nat_le (length rows) places) (Ok (length rows)) (Err MemoryTooShort)
