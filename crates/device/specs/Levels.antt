-- What lies beneath a device that is a pile of layers.
use Rattle.std.specs.Prelude.{◌≡◌, ℕ, ◌^◌, ◌<◌, List, map, Some, None}
use Rattle.rows.specs.declared.row.Row.{Row}
use Rattle.device.specs.States.{Slot, DeviceState, row_takes}

-- a way to carry numbers and rows to other lines, and back
pub record Carrying : Type 0 where
  pub number_there : ℕ → ℕ
  pub number_back : ℕ → ℕ
  pub row_there : Row → Row
  pub row_back : Row → Row

-- the carrying is lawful at width n: numbers and rows of the width stay within it, there and back gives the same
-- from either side, and a carried row takes a carried number just where the row takes the number
pub record Carries (n : ℕ) (c : Carrying) : Type 0 where
  pub number_stays : (x : ℕ) → x < 2 ^ n → c.number_there x < 2 ^ n
  pub number_back_stays : (x : ℕ) → x < 2 ^ n → c.number_back x < 2 ^ n
  pub number_there_back : (x : ℕ) → x < 2 ^ n → c.number_back (c.number_there x) ≡ x
  pub number_back_there : (x : ℕ) → x < 2 ^ n → c.number_there (c.number_back x) ≡ x
  pub row_stays : (r : Row) → r.care < 2 ^ n → (c.row_there r).care < 2 ^ n
  pub row_back_stays : (r : Row) → r.care < 2 ^ n → (c.row_back r).care < 2 ^ n
  pub row_there_back : (r : Row) → r.care < 2 ^ n → c.row_back (c.row_there r) ≡ r
  pub row_back_there : (r : Row) → r.care < 2 ^ n → c.row_there (c.row_back r) ≡ r
  pub taken : (r : Row) (x : ℕ) → r.care < 2 ^ n → x < 2 ^ n → row_takes (c.row_there r) (c.number_there x) ≡ row_takes r x

abbrev pub carried_slot : (Row → Row) → Slot → Slot
carried_slot carry (Some r) = Some (carry r)
carried_slot carry None = None

-- the slots with each row carried
abbrev pub carried_slots : (Row → Row) → List Slot → List Slot
carried_slots carry slots = map (carried_slot carry) slots

-- a level beneath a device: the carrying that leads there, and the slots found there
pub record Level : Type 0 where
  pub carrying : Carrying
  pub slots : List Slot

-- the level lies beneath a device of this meaning: its slots are the device's own, carried
pub record Beneath (s : DeviceState) (l : Level) : Type 0 where
  pub carries : Carries s.width l.carrying
  pub slots_carried : l.slots ≡ carried_slots l.carrying.row_there s.slots

-- the ways that lead to the levels
abbrev pub carryings : List Level → List Carrying
carryings levels = map (λ l. l.carrying) levels
