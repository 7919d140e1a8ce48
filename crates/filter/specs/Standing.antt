-- What it means that the parts of a filter stand for a ledger.
use Rattle.std.specs.Prelude.{◌≡◌, ℕ, ◌≤◌, Bool, length}
use Rattle.device.specs.States.{DeviceState}
use Rattle.run_table.specs.declared.table.RunTable.{RunTable}
use Rattle.run_table.specs.Tables.{table_runs}
use Rattle.ledger.specs.Ledger.{Ledger, Laid, ledger_runs, ledger_rows, mute_left}

-- the table lists the runs of the ledger's numbers, the slots hold their rows, and mute, mark, tag, width and slot count agree
pub record Standing (device : DeviceState) (table : RunTable) (is_held : Bool) (its_tag : ℕ) (b : Ledger) : Type 0 where
  pub width : device.width ≡ b.width
  pub muted : device.muted ≡ mute_left b
  pub held : is_held ≡ b.held
  pub tag : its_tag ≡ b.tag
  pub runs : table_runs table ≡ ledger_runs b
  pub fit : length (ledger_rows b) ≤ b.slots
  pub slots : Laid b device.slots
