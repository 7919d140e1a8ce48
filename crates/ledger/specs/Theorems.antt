-- Laws of the ledger.
use Rattle.std.specs.Prelude.{◌≡◌, true, Ok, Err, length}
use Rattle.std.specs.List.{AllByRecursion}
use Rattle.covers.specs.Rivals.{TakesPrecisely, Shortest, Within}
use Rattle.circle.specs.Theorems.{IsRuns}
use Rattle.rows.specs.declared.edit.Edit.{Edit}
use Rattle.rows.specs.declared.edit.Edit.TheVariants.{Add}
use Rattle.rows.specs.declared.refusal.Refusal.TheVariants.{FilterHeld, NotHeld, TooManyRows}
use Rattle.ledger.specs.Ledger.{Ledger, opened, ledger_runs, ledger_rows}
use Rattle.ledger.specs.Steps.{hold_step, edit_step}

-- its rows take just its numbers; those of one run are the fewest, those of k runs at most 2 · k times as many as any rival's
pub record RowsOfALedger (b : Ledger) : Type 0 where
  pub runs : IsRuns b.width b.numbers (ledger_runs b)
  pub of_width : AllByRecursion (λ row. length row ≡ b.width) (ledger_rows b)
  pub exact : TakesPrecisely b.width (ledger_rows b) b.numbers
  pub shortest : length (ledger_runs b) ≡ 1 → Shortest b.width (ledger_rows b)
  pub bounded : Within (length (ledger_runs b)) b.width (ledger_rows b)

-- the numbers 1 to 4
abbrev pub one_to_four : Edit
one_to_four = Add (record { first = 1; last = 4 })

-- steps of a ledger of width 3 whose tag is 5: 1 to 4 have the rows 01-, 001, 100
pub record LedgerExample : Type 0 where
  pub not_held : (edit_step 5 one_to_four (opened 3 8 5)).0 ≡ Err NotHeld
  pub held : hold_step (opened 3 8 5) ≡ (Ok 5, record (opened 3 8 5) { held = true })
  pub held_again : (hold_step (hold_step (opened 3 8 5)).1).0 ≡ Err FilterHeld
  pub added : (edit_step 5 one_to_four (hold_step (opened 3 8 5)).1).0 ≡ Ok 3
  pub no_room : (edit_step 5 one_to_four (hold_step (opened 3 2 5)).1).0 ≡ Err TooManyRows
  pub another_token : (edit_step 6 one_to_four (hold_step (opened 3 8 5)).1).0 ≡ Err NotHeld
