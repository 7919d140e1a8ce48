use Rattle.std.proofs.Common.{ap}
use Rattle.rows.specs.Ranges.{ranges_of}
use Rattle.run_table.specs.Tables.{table_runs}
use Rattle.run_table.proofs.Tables.{held_runs}
use Rattle.run_table.proofs.table.RunTable.holding.Goals as goal

pub returns : goal.returns
unfolding table_runs
returns c = record { runs = ap ranges_of (held_runs c.args.runs.now c.copy_from_slice.new.self _ c.copy_from_slice.ensures.after c.requires.few) }
