use Rattle.std.proofs.Common.{◌≡◌, ◌-◌, ◌^◌, min, length, take}
use Rattle.rows.specs.Ranges.{ranges_of}
use Rattle.rows.specs.Widths.{places_of}
use Rattle.ranges.specs.RangesWithin.{rows_of_ranges_within}
use Rattle.ranges.proofs.run_rows.row_count.Given as goal

abbrev pub invariant-loop-run : goal.invariant-loop-run
invariant-loop-run l =
    (l.count ≡ min (length (rows_of_ranges_within (places_of l.width) (ranges_of (take l.run-index l.runs)))) (2 ^ 64 - 1)) ×
    (length l.scratch ≡ 62)
