use Rattle.std.proofs.Common.{◌≡◌, ltb, take, filter}
use Rattle.run_table.specs.EditedSets.{runs_at_firsts}
use Rattle.run_table.specs.NewRuns.{firsts_of}
use Rattle.run_table.proofs.Writing.{so_far}
use Rattle.run_table.proofs.edited_set.EditedSet.list_runs.Given as goal

-- the old firsts below the new one, so far
abbrev pub invariant-loop-run : goal.invariant-loop-run
invariant-loop-run l = l.out.items ≡ runs_at_firsts l.self (filter (λ f. ltb f l.new) (take l.run-index (firsts_of l.run-items)))

-- those, the new one, and the old firsts above it, so far
abbrev pub invariant-loop-run-2 : goal.invariant-loop-run-2
invariant-loop-run-2 l = l.out.items ≡ runs_at_firsts l.self (so_far l.new l.run-items l.run-index)
