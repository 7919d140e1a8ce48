-- What a device means, and what it says to a number.
use Rattle.std.specs.Prelude.{ℕ, ◌^◌, ◌<◌, ◌≤◌, Bool, false, not, ◌&&◌, ◌||◌, List, [], ◌∷◌, length, replicate, Some, None, Option, IfSome, ◌==◌, bit_and}
use Rattle.std.specs.List.{AllByRecursion}
use Rattle.rows.specs.declared.row.Row.{Row}

-- a slot holds a row or nothing
abbrev pub Slot : Type 0
Slot = Option Row

-- the meaning of a device: how many digits its numbers have, what lies in its slots, and whether it is mute
pub record DeviceState : Type 0 where
  pub width : ℕ
  pub slots : List Slot
  pub muted : Bool

-- a row takes the numbers that agree with its value wherever it cares
abbrev pub row_takes : Row → ℕ → Bool
row_takes r x = bit_and x r.care == r.value

abbrev pub slot_takes : Slot → ℕ → Bool
slot_takes (Some r) x = row_takes r x
slot_takes None x = false

-- the row of some filled slot takes the number
abbrev pub some_slot_takes : List Slot → ℕ → Bool
some_slot_takes [] x = false
some_slot_takes (s ∷ slots) x = slot_takes s x || some_slot_takes slots x

-- what a device says to a number of its width
abbrev pub says : DeviceState → ℕ → Bool
says s x = not s.muted && some_slot_takes s.slots x

-- a row in a slot cares about the last n places only
abbrev pub SlotWithin : ℕ → Slot → Type 0
SlotWithin n content = IfSome content (λ r. r.care < 2 ^ n)

-- what holds of every device at any time
pub record Lawful (s : DeviceState) : Type 0 where
  pub some_place : 1 ≤ s.width
  pub few_places : s.width ≤ 32
  pub few_slots : length s.slots ≤ 120
  pub rows_within : AllByRecursion (SlotWithin s.width) s.slots

-- a device with nothing in its slots, the mute off
abbrev pub blank_state : ℕ → ℕ → DeviceState
blank_state n count = record { width = n; slots = replicate count None; muted = false }
