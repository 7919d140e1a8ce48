use Rattle.std.proofs.Common.{rules, ◌∙◌}
use Rattle.run_table.specs.Tables.{table_runs}
use Rattle.run_table.proofs.table.RunTable.runs.Goals as goal

pub returns-clause-value : goal.returns-clause-value
unfolding table_runs
returns-clause-value c = search rules

pub returns-clause-of_set : goal.returns-clause-of_set
returns-clause-of_set c = λ n S q. returns-clause-value c ∙ q
