-- Slots as they are printed.
use Rattle.std.specs.Prelude.{ℕ, List, ◌++◌, map, Some, None, codes}
use Rattle.std.specs.List.{flat_map}
use Rattle.covers.specs.Symbols.{letter}
use Rattle.covers.specs.Words.{symbols}
use Rattle.device.specs.States.{DeviceState, Slot}

-- a space and the row's symbols at the width, or "empty"
abbrev pub slot_text : ℕ → Slot → List ℕ
slot_text n (Some row) = codes " " ++ map letter (symbols n row.value row.care)
slot_text n None = codes " empty"

-- every slot of the device, the first one first
abbrev pub slots_text : DeviceState → List ℕ
slots_text s = flat_map (slot_text s.width) s.slots
