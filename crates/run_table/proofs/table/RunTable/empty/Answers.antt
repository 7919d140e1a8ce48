use Rattle.std.proofs.Common.{refl}
use Rattle.run_table.specs.Tables.{table_runs}
use Rattle.run_table.proofs.Tables.{of_none}
use Rattle.run_table.proofs.table.RunTable.empty.Goals as goal

pub returns : goal.returns
unfolding table_runs
returns c = record { runs = refl; of_no_number = of_none }
