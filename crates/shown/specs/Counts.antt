-- Ranges and counts of rows as they are printed.
use Rattle.std.specs.Prelude.{ℕ, List, ◌++◌, cond, ◌==◌, codes, decimal}
use Rattle.rows.specs.declared.range.Range.{Range}

-- as "3 to 12"
abbrev pub range_text : Range → List ℕ
range_text range = decimal range.first ++ codes " to " ++ decimal range.last

-- as "1 row" and "2 rows"
abbrev pub count_text : ℕ → List ℕ
count_text count = cond (count == 1) (codes "1 row") (decimal count ++ codes " rows")
