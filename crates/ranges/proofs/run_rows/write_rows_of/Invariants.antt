use Rattle.std.proofs.Common.{◌≡◌, map, length, take}
use Rattle.rows.specs.Memory.{written}
use Rattle.rows.specs.Memory.{words_of}
use Rattle.rows.specs.Widths.{places_of}
use Rattle.ranges.specs.RangesWithin.{rows_of_ranges_within}
use Rattle.rows.specs.Ranges.{ranges_of}
use Rattle.ranges.proofs.run_rows.write_rows_of.Given as goal

abbrev pub invariant-loop-run : goal.invariant-loop-run
invariant-loop-run l =
    (l.memory ≡ written l.initial.memory 0 (map words_of (rows_of_ranges_within (places_of l.width) (ranges_of (take l.run-index l.runs))))) ×
    (l.next ≡ length (rows_of_ranges_within (places_of l.width) (ranges_of (take l.run-index l.runs))))
