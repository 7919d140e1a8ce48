-- What a level beneath a pile shares with its top.
use Rattle.std.specs.Prelude.{◌≡◌, ℕ, ◌^◌, ◌<◌, List, map, length}
use Rattle.covers.specs.Symbols.{Symbols}
use Rattle.covers.specs.Words.{value_word, care_word}
use Rattle.covers.specs.Rivals.{Rival}
use Rattle.rows.specs.declared.row.Row.{Row}
use Rattle.device.specs.States.{DeviceState, some_slot_takes}
use Rattle.rows.specs.MadeRows.{row_made}
use Rattle.device.specs.SymbolLaws.{rows_in}
use Rattle.rows.specs.Memory.{symbols_of}
use Rattle.device.specs.Levels.{Level}

-- rows of the width by their symbols, each carried
abbrev pub carried_rows : ℕ → (Row → Row) → List Symbols → List Symbols
carried_rows n carry rows = map (λ r. symbols_of n (carry (row_made (value_word r) (care_word r)))) rows

-- the rows at the level take a carried number exactly when the rows on top take the number; they are as many; and a
-- rival of them, carried back, is a rival of the rows on top, with as many rows
pub record Alike (s : DeviceState) (l : Level) : Type 0 where
  pub taken : (x : ℕ) → x < 2 ^ s.width → some_slot_takes l.slots (l.carrying.number_there x) ≡ some_slot_takes s.slots x
  pub as_many : length (rows_in s.width l.slots) ≡ length (rows_in s.width s.slots)
  pub rival_back : (other : List Symbols) → Rival s.width (rows_in s.width l.slots) other →
      Rival s.width (rows_in s.width s.slots) (carried_rows s.width l.carrying.row_back other)
  pub rival_as_many : (other : List Symbols) → length (carried_rows s.width l.carrying.row_back other) ≡ length other
