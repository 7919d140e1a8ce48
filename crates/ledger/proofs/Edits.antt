-- What the ledger answers to an edit whose token fits.
use Rattle.std.proofs.Common.{◌≡◌, ℕ, ◌<◌, ◌≤◌, true, false, length, Ok, Err, ap}
use Rattle.std.proofs.lemmas.Bool.{le-leb, lt-leb}
use Rattle.rows.specs.declared.edit.Edit.{Edit}
use Rattle.rows.specs.declared.refusal.Refusal.{Refusal}
use Rattle.rows.specs.declared.refusal.Refusal.TheVariants.{NumberOutsideWidth, TooManyRows, TooManyRuns}
use Rattle.rows.specs.Edits.{edit_in_width}
use Rattle.rows.specs.Refusals.{if_granted}
use Rattle.ledger.specs.Ledger.{Ledger, ledger_runs, ledger_rows}
use Rattle.ledger.specs.Steps.{edit_step, token_fits, with_edit}

module _ (b : Ledger) (token : ℕ) (e : Edit) (fits : token_fits b token ≡ true) where
  pub outside : edit_in_width b.width e ≡ false → (edit_step token e b).0 ≡ Err NumberOutsideWidth
  outside w = rw (fits, w)

  module _ (w : edit_in_width b.width e ≡ true) where
    pub many_runs : 16 < length (ledger_runs (with_edit b e)) → (edit_step token e b).0 ≡ Err TooManyRuns
    many_runs h = rw (fits, w, lt-leb (length (ledger_runs (with_edit b e))) 16 h)

    module _ (few : length (ledger_runs (with_edit b e)) ≤ 16) where
      pub many_rows : b.slots < length (ledger_rows (with_edit b e)) → (edit_step token e b).0 ≡ Err TooManyRows
      many_rows h = rw (fits, w, le-leb (length (ledger_runs (with_edit b e))) 16 few, lt-leb (length (ledger_rows (with_edit b e))) b.slots h)

      pub granted : length (ledger_rows (with_edit b e)) ≤ b.slots → (edit_step token e b).0 ≡ Ok (length (ledger_rows (with_edit b e)))
      granted h = rw (fits, w, le-leb (length (ledger_runs (with_edit b e))) 16 few, le-leb (length (ledger_rows (with_edit b e))) b.slots h)

-- and the ledger after it
pub after_refused : (b : Ledger) (token : ℕ) (e : Edit) (x : Refusal) → (edit_step token e b).0 ≡ Err x → (edit_step token e b).1 ≡ b
after_refused b token e x h = ap (λ a. if_granted a (with_edit b e) b) h

pub after_granted : (b : Ledger) (token : ℕ) (e : Edit) (k : ℕ) → (edit_step token e b).0 ≡ Ok k → (edit_step token e b).1 ≡ with_edit b e
after_granted b token e k h = ap (λ a. if_granted a (with_edit b e) b) h
