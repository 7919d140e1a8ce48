-- The lines of the rows in the slots.
use Rattle.std.specs.Prelude.{ℕ, List, map, Option}
use Rattle.std.specs.Option.{option_map}
use Rattle.covers.specs.Symbols.{Symbols}
use Rattle.device.specs.States.{Slot}
use Rattle.rows.specs.Memory.{symbols_of}
use Rattle.lines.specs.Printed.{row_bytes}

-- the line of a slot's row; an empty slot has none
abbrev pub slot_line : ℕ → Slot → Option (List ℕ)
slot_line n slot = option_map (λ r. row_bytes (symbols_of n r)) slot

-- the lines of a list of rows
abbrev pub row_lines : List Symbols → List (List ℕ)
row_lines rows = map row_bytes rows
