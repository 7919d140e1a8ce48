-- What a filter promises over every device and every list of calls.
use Rattle.std.specs.Prelude.{◌≡◌, ℕ, ◌^◌, ◌<◌, ◌≤◌, List, length}
use Rattle.std.specs.List.{AllByRecursion}
use Rattle.covers.specs.Rivals.{TakesPrecisely, Shortest, Within}
use Rattle.circle.specs.Theorems.{IsRuns}
use Rattle.device.specs.Levels.{Carrying, Carries, Level}
use Rattle.device.specs.States.{DeviceState, some_slot_takes}
use Rattle.device.specs.SymbolLaws.{rows_in}
use Rattle.device.specs.declared.exchange.Exchange.{Exchange}
use Rattle.device.specs.Exchanges.{calls_of}
use Rattle.layers.specs.Layers.{layer_levels, layer_state}
use Rattle.filter_calls.specs.declared.call.FilterCall.{FilterCall}
use Rattle.ledger.specs.Ledger.{Ledger, Laid, opened, freed, ledger_runs, mute_left}
use Rattle.filter_calls.specs.Replays.{Answer, after_calls, answered, answered_in_full, as_compared}

-- the ledger of a device at the opening, and after these exchanges
abbrev pub first_ledger : DeviceState → ℕ → Ledger
first_ledger s tag = opened s.width (length s.slots) tag

abbrev pub last_ledger : DeviceState → ℕ → List (Exchange FilterCall Answer) → Ledger
last_ledger s tag exchanges = after_calls (first_ledger s tag) (calls_of exchanges)

-- the ledger after these exchanges, of a filter that was closed then
abbrev pub closed_ledger : DeviceState → ℕ → List (Exchange FilterCall Answer) → Ledger
closed_ledger s tag exchanges = freed (last_ledger s tag exchanges)

-- at a level beneath the device: numbers and rows are carried there and back again lawfully, so that all numbers of the
-- width are spoken of; the rows take precisely the ledger's numbers, carried there, and both bounds hold against every
-- rival of those rows, with the runs counted before carrying
pub record PromiseBeneath (b : Ledger) (l : Level) : Type 0 where
  pub carries : Carries b.width l.carrying
  pub exact : (x : ℕ) → x < 2 ^ b.width → some_slot_takes l.slots (l.carrying.number_there x) ≡ b.numbers x
  pub shortest : length (ledger_runs b) ≡ 1 → Shortest b.width (rows_in b.width l.slots)
  pub bounded : Within (length (ledger_runs b)) b.width (rows_in b.width l.slots)

-- what holds of a device in the state t, with these levels beneath it, whose filter's ledger is b
pub record PromiseKept (t : DeviceState) (levels : List Level) (b : Ledger) : Type 0 where
  pub width : t.width ≡ b.width
  -- the mute is the one that the ledger leaves: on just while it is held
  pub muted : t.muted ≡ mute_left b
  -- the rows of the runs lie in the slots from 0 upward, and nothing in the others
  pub laid : Laid b t.slots
  -- the runs are the longest unbroken stretches of the ledger's numbers, ascending by their first numbers
  pub runs : IsRuns b.width b.numbers (ledger_runs b)
  -- no more than a table has room for
  pub few : length (ledger_runs b) ≤ 16
  -- the rows, by their symbols, take just the ledger's numbers
  pub taken : TakesPrecisely b.width (rows_in b.width t.slots) b.numbers
  -- and so do the slots, as the device asks them
  pub exact : (x : ℕ) → x < 2 ^ b.width → some_slot_takes t.slots x ≡ b.numbers x
  -- one run: no list is shorter
  pub shortest : length (ledger_runs b) ≡ 1 → Shortest b.width (rows_in b.width t.slots)
  -- k runs: at most 2 · k times any rival
  pub bounded : Within (length (ledger_runs b)) b.width (rows_in b.width t.slots)
  -- the same beneath layers
  pub beneath : AllByRecursion (PromiseBeneath b) levels

-- A filter was opened with a tag over a device in the state s, and calls were made; the exchanges are those before and those
-- after, with the answers, and the device is in the state t now. Each call is answered as the ledger answers it, nothing is
-- left free where a slot's row is told, and the rows are right after them all, for the ledger b.
pub record PromiseFor (b : Ledger) (s : DeviceState) (tag : ℕ) (before after : List (Exchange FilterCall Answer)) (t : DeviceState) (levels : List Level) : Type 0 where
  pub answers : as_compared after ≡ answered (first_ledger s tag) before
  -- the exchanges themselves, with the row of each slot that was reported
  pub in_full : after ≡ answered_in_full (first_ledger s tag) (calls_of before)
  pub kept : PromiseKept t levels b

-- the whole promise of a filter that was not closed
abbrev pub Promise : DeviceState → ℕ → List (Exchange FilterCall Answer) → List (Exchange FilterCall Answer) → DeviceState → List Level → Type 0
Promise s tag before after t levels = PromiseFor (last_ledger s tag before) s tag before after t levels

-- and of one that was closed after the calls
abbrev pub PromiseClosed : DeviceState → ℕ → List (Exchange FilterCall Answer) → List (Exchange FilterCall Answer) → DeviceState → List Level → Type 0
PromiseClosed s tag before after t levels = PromiseFor (closed_ledger s tag before) s tag before after t levels

-- The whole promise of a filter over a layer that was closed after the calls, by the map's carrying and by the device below it,
-- before and after: that of the layer which they make, at whose first level the device itself lies.
abbrev pub PromiseOverLayer : (ℕ → Carrying) → DeviceState → ℕ → List (Exchange FilterCall Answer) → List (Exchange FilterCall Answer) → DeviceState → List Level → Type 0
PromiseOverLayer carrying s tag before after t levels =
    PromiseClosed (layer_state carrying s) tag before after (layer_state carrying t) (layer_levels carrying t levels)

-- the same over a layer on a layer on the device
abbrev pub PromiseOverLayers : (ℕ → Carrying) → (ℕ → Carrying) → DeviceState → ℕ → List (Exchange FilterCall Answer) → List (Exchange FilterCall Answer) → DeviceState → List Level → Type 0
PromiseOverLayers outer inner s tag before after t levels =
    PromiseOverLayer outer (layer_state inner s) tag before after (layer_state inner t) (layer_levels inner t levels)
