-- The runs and rows of a ledger.
use Rattle.circle.proofs.Rows.{rows}
use Rattle.circle.proofs.Runs.{are_runs}
use Rattle.ledger.specs.Ledger.{Ledger}
use Rattle.ledger.specs.Theorems.{RowsOfALedger}

pub ledger_rows_right : (b : Ledger) → RowsOfALedger b
ledger_rows_right b = record {
  runs = are_runs b.width b.numbers;
  of_width = rows.of_width b.width b.numbers;
  exact = rows.exact b.width b.numbers;
  shortest = rows.shortest b.width b.numbers;
  bounded = rows.bounded b.width b.numbers;
}
