use Rattle.std.proofs.Common.{◌≡◌, ◌-◌, ◌≤◌, ◌++◌, min, length, map, take}
use Rattle.rows.specs.Memory.{words_of}
use Rattle.rows.specs.Ranges.{ranges_of}
use Rattle.rows.specs.Widths.{places_of}
use Rattle.ranges.specs.SeveralRanges.{rows_of_ranges}
use Rattle.ranges.proofs.runs.add_rows_of_runs.Given as goal

-- the rows of the runs so far behind what the list held, and they fit
abbrev pub invariant-loop-run : goal.invariant-loop-run
invariant-loop-run l =
    (l.rows.items ≡ l.fn.rows.items ++ map words_of (rows_of_ranges (places_of l.width) (ranges_of (take l.run-index l.runs)))) ×
    (length (rows_of_ranges (places_of l.width) (ranges_of (take l.run-index l.runs))) ≤ min l.fn.room (120 - length l.fn.rows.items))
