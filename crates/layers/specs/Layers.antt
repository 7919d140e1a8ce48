-- What a layer means, what it hands down, and the levels beneath it.
use Rattle.std.specs.Prelude.{ℕ, ◌^◌, cond, List, ◌∷◌, map, nat_lt}
use Rattle.rows.specs.declared.row.Row.{Row}
use Rattle.device.specs.States.{DeviceState}
use Rattle.device.specs.Levels.{Carrying, Level, carried_slots}

-- a layer means what the device below means, each row carried back
abbrev pub layer_state : (ℕ → Carrying) → DeviceState → DeviceState
layer_state carrying s = record s { slots = carried_slots (carrying s.width).row_back s.slots }

-- a number goes down carried, or as it is if it lies outside the width
abbrev pub number_below : (ℕ → Carrying) → DeviceState → ℕ → ℕ
number_below carrying s x = cond (nat_lt x (2 ^ s.width)) ((carrying s.width).number_there x) x

-- a row goes down carried, or as it is if it cares beyond the width
abbrev pub row_below : (ℕ → Carrying) → DeviceState → Row → Row
row_below carrying s r = cond (nat_lt r.care (2 ^ s.width)) ((carrying s.width).row_there r) r

-- first the one carrying, then the other
abbrev pub composed : Carrying → Carrying → Carrying
composed c d =
    record {
      number_there = λ x. d.number_there (c.number_there x);
      number_back = λ x. c.number_back (d.number_back x);
      row_there = λ r. d.row_there (c.row_there r);
      row_back = λ r. c.row_back (d.row_back r);
    }

-- a level of the device below, as it lies beneath the layer
abbrev pub level_under : Carrying → Level → Level
level_under c l = record { carrying = composed c l.carrying; slots = l.slots }

-- the device below is the first level, and then come its own
abbrev pub layer_levels : (ℕ → Carrying) → DeviceState → List Level → List Level
layer_levels carrying s levels =
    record { carrying = carrying s.width; slots = s.slots } ∷ map (level_under (carrying s.width)) levels
