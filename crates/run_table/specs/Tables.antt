-- What a table of runs means.
use Rattle.std.specs.Prelude.{◌≡◌, ℕ, min, List, take}
use Rattle.covers.specs.Rivals.{NumberSet}
use Rattle.circle.specs.Runs.{runs}
use Rattle.rows.specs.declared.range.Range.{Range}
use Rattle.rows.specs.Ranges.{ranges_of}
use Rattle.run_table.specs.declared.table.RunTable.{RunTable}

-- the entries that stand
abbrev pub standing : RunTable → List Range
standing t = take (min t.count 16) t.runs

-- the runs that the table holds
unfoldable pub table_runs : RunTable → List (ℕ × ℕ)
table_runs t = ranges_of (standing t)

-- the table holds the runs of the set, at a width
abbrev pub TableOf : ℕ → NumberSet → RunTable → Type 0
TableOf n S t = table_runs t ≡ runs n S
