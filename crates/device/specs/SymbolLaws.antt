-- What the slots take, by the symbols of their rows.
use Rattle.std.specs.Prelude.{◌≡◌, ℕ, ◌^◌, ◌<◌, List, [], ◌∷◌, Some, None}
use Rattle.covers.specs.Digits.{digits}
use Rattle.covers.specs.Symbols.{Symbols, takes, list_takes}
use Rattle.rows.specs.declared.row.Row.{Row}
use Rattle.rows.specs.Memory.{symbols_of}
use Rattle.device.specs.States.{Slot, DeviceState, Lawful, row_takes, some_slot_takes}

-- the rows of the filled slots, in the order of the slots
abbrev pub rows_in : ℕ → List Slot → List Symbols
rows_in n [] = []
rows_in n (Some r ∷ slots) = symbols_of n r ∷ rows_in n slots
rows_in n (None ∷ slots) = rows_in n slots

-- a row takes what its symbols take, and some slot takes what the list of their rows takes
pub record TakenBySymbols : Type 0 where
  pub by_row : (n : ℕ) (r : Row) (x : ℕ) → r.care < 2 ^ n → row_takes r x ≡ takes (symbols_of n r) (digits n x)
  pub by_slots : (s : DeviceState) (x : ℕ) → Lawful s → some_slot_takes s.slots x ≡ list_takes (rows_in s.width s.slots) (digits s.width x)
