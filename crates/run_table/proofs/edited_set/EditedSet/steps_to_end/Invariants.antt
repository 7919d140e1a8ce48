use Rattle.std.proofs.Common.{◌≡◌, drop}
use Rattle.circle.specs.Runs.{ends}
use Rattle.rows.specs.Widths.{places_of}
use Rattle.run_table.specs.EditedSets.{nearest, set_of}
use Rattle.run_table.specs.NewRuns.{lasts_of, least_of, steps}
use Rattle.run_table.proofs.edited_set.EditedSet.steps_to_end.Given as goal

-- the runs that are left give what all give
abbrev pub invariant-loop-run : goal.invariant-loop-run
invariant-loop-run l =
    least_of (ends (places_of l.self.width) (set_of l.self)) (steps (places_of l.self.width) l.from) l.fewest (lasts_of (drop l.run-index l.run-items)) ≡ nearest l.self l.from
