-- Each call on the ledger: what it answers, by the conditions in their order, and the ledger after it.
use Rattle.std.specs.Prelude.{ℕ, ◌^◌, Bool, true, cond, ◌&&◌, length, None, Ok, Err, Option, Result, ◌==◌, nat_le, nat_lt, slice_index_or}
use Rattle.circle.specs.Runs.{run_at}
use Rattle.rows.specs.declared.edit.Edit.{Edit}
use Rattle.rows.specs.declared.refusal.Refusal.{Refusal}
use Rattle.rows.specs.declared.refusal.Refusal.TheVariants.{NumberOutsideWidth, NoSuchSlot, TooManyRuns, TooManyRows, FilterHeld, NotHeld}
use Rattle.rows.specs.declared.row.Row.{Row}
use Rattle.rows.specs.Edits.{edited, edit_in_width}
use Rattle.rows.specs.Refusals.{if_granted}
use Rattle.ledger.specs.Ledger.{Ledger, freed, ledger_runs, ledger_rows, slots_laid}

abbrev pub Step : Type 0 → Type 0
Step A = Ledger → A × Ledger

-- the same call, its answer told in other words
abbrev pub told : {A B : Type 0} → (A → B) → Step A → Step B
told say step b = (say (step b).0, (step b).1)

-- a call that is refused changes nothing
abbrev pub unless_refused : {X : Type 0} → Result X Refusal → Ledger → Ledger → Result X Refusal × Ledger
unless_refused answer next b = (answer, if_granted answer next b)

-- hold: refused if held, else the tag, and the mark is set
abbrev pub hold_step : Step (Result ℕ Refusal)
hold_step b = unless_refused (cond b.held (Err FilterHeld) (Ok b.tag)) (record b { held = true }) b

-- the token is the one that was handed out
abbrev pub token_fits : Ledger → ℕ → Bool
token_fits b token = b.held && token == b.tag

-- release: refused if the token does not fit, else the mark is taken off
abbrev pub release_step : ℕ → Step (Result (Unit {0}) Refusal)
release_step token b = unless_refused (cond (token_fits b token) (Ok tt) (Err NotHeld)) (freed b) b

-- the ledger with the numbers that an edit would leave
abbrev pub with_edit : Ledger → Edit → Ledger
with_edit b e = record b { numbers = edited e b.numbers }

-- how many rows it has, if neither its runs nor its rows are too many
abbrev pub row_count : Ledger → Result ℕ Refusal
row_count b =
    cond (nat_le (length (ledger_runs b)) 16)
    (cond (nat_le (length (ledger_rows b)) b.slots) (Ok (length (ledger_rows b))) (Err TooManyRows))
    (Err TooManyRuns)

-- add and drop: refused by the token, by the ends, then by the runs and rows that the edit would leave
abbrev pub edit_step : ℕ → Edit → Step (Result ℕ Refusal)
edit_step token e b =
    unless_refused
    (cond (token_fits b token) (cond (edit_in_width b.width e) (row_count (with_edit b e)) (Err NumberOutsideWidth)) (Err NotHeld))
    (with_edit b e) b

-- ask: whether the set has the number; refused if held
abbrev pub ask_step : ℕ → Step (Result Bool Refusal)
ask_step x b = (cond b.held (Err FilterHeld) (cond (nat_lt x (2 ^ b.width)) (Ok (b.numbers x)) (Err NumberOutsideWidth)), b)

-- the report of a run: both ends, or nothing beyond the last
abbrev pub run_step : ℕ → Step (Option (ℕ × ℕ))
run_step i b = (run_at (ledger_runs b) i, b)

-- the report of a slot, by its refusal only
abbrev pub slot_step : ℕ → Step (Result (Unit {0}) Refusal)
slot_step slot b = (cond (nat_lt slot b.slots) (Ok tt) (Err NoSuchSlot), b)

-- and in full: the row that lies there, or nothing
abbrev pub full_slot_step : ℕ → Step (Result (Option Row) Refusal)
full_slot_step slot b = (cond (nat_lt slot b.slots) (Ok (slice_index_or (slots_laid b) slot None)) (Err NoSuchSlot), b)
