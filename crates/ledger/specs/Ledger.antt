-- The reference by which a filter is judged: it keeps a set of numbers and a mark, and knows no table of runs, no memory and
-- no device.
use Rattle.std.specs.Prelude.{◌≡◌, ℕ, ◌-◌, Bool, false, List, ◌++◌, map, length, replicate, Some, None, Option}
use Rattle.covers.specs.Symbols.{Symbols}
use Rattle.covers.specs.Rivals.{NumberSet}
use Rattle.covers.specs.Words.{value_word, care_word}
use Rattle.circle.specs.Runs.{rows_of_set, runs}
use Rattle.rows.specs.declared.row.Row.{Row}
use Rattle.rows.specs.MadeRows.{row_made}

-- what the ledger learns at the opening, the numbers that are held, and the mark
pub record Ledger : Type 0 where
  pub width : ℕ
  pub slots : ℕ
  pub tag : ℕ
  pub numbers : NumberSet
  pub held : Bool

-- opened, it holds no numbers and has no mark
abbrev pub opened : ℕ → ℕ → ℕ → Ledger
opened width slots tag = record { width = width; slots = slots; tag = tag; numbers = λ _. false; held = false }

-- its mark taken off
abbrev pub freed : Ledger → Ledger
freed b = record b { held = false }

-- the runs of its numbers, and the rows that the rules give them
abbrev pub ledger_runs : Ledger → List (ℕ × ℕ)
ledger_runs b = runs b.width b.numbers

abbrev pub ledger_rows : Ledger → List Symbols
ledger_rows b = rows_of_set b.width b.numbers

-- a row of symbols in a slot
abbrev pub slot_with : Symbols → Option Row
slot_with r = Some (row_made (value_word r) (care_word r))

-- which slot holds which row: the rows lie in order from slot 0 upward, and nothing in the others
abbrev pub slots_laid : Ledger → List (Option Row)
slots_laid b = map slot_with (ledger_rows b) ++ replicate (b.slots - length (ledger_rows b)) None

abbrev pub Laid : Ledger → List (Option Row) → Type 0
Laid b slots = slots ≡ slots_laid b

-- the mute in which a filter leaves its device
abbrev pub mute_left : Ledger → Bool
mute_left b = b.held
