-- The parts of a filter, which clauses read.
use Rattle.std.specs.Prelude.{ℕ, Bool}
use Rattle.run_table.specs.declared.table.RunTable.{RunTable}

pub record FilterParts (D : Type 0) : Type 0 where
  pub device : D
  pub runs : RunTable
  pub held : Bool
  pub tag : ℕ
