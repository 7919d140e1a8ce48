-- What each call on a device answers, by the conditions in their order, and what the device means afterwards.
use Rattle.std.specs.Prelude.{ℕ, ◌^◌, Bool, cond, List, [], ◌∷◌, length, Some, None, Ok, Err, Result, nat_lt, slice_index_or, slice_set}
use Rattle.rows.specs.declared.refusal.Refusal.{Refusal}
use Rattle.rows.specs.declared.refusal.Refusal.TheVariants.{NumberOutsideWidth, NoSuchSlot, RowOutsideWidth}
use Rattle.rows.specs.declared.row.Row.{Row}
use Rattle.rows.specs.Refusals.{if_granted}
use Rattle.device.specs.States.{Slot, DeviceState, says}

-- a slot is written, all else stays
abbrev pub with_slot : DeviceState → ℕ → Slot → DeviceState
with_slot s slot content = record s { slots = slice_set s.slots slot content }

abbrev pub put_answer : DeviceState → ℕ → Row → Result (Unit {0}) Refusal
put_answer s slot row =
    cond (nat_lt slot (length s.slots)) (cond (nat_lt row.care (2 ^ s.width)) (Ok tt) (Err RowOutsideWidth)) (Err NoSuchSlot)

abbrev pub after_put : DeviceState → ℕ → Row → DeviceState
after_put s slot row = if_granted (put_answer s slot row) (with_slot s slot (Some row)) s

abbrev pub empty_answer : DeviceState → ℕ → Result (Unit {0}) Refusal
empty_answer s slot = cond (nat_lt slot (length s.slots)) (Ok tt) (Err NoSuchSlot)

abbrev pub after_empty : DeviceState → ℕ → DeviceState
after_empty s slot = if_granted (empty_answer s slot) (with_slot s slot None) s

abbrev pub read_answer : DeviceState → ℕ → Result Slot Refusal
read_answer s slot = cond (nat_lt slot (length s.slots)) (Ok (slice_index_or s.slots slot None)) (Err NoSuchSlot)

abbrev pub after_mute : DeviceState → Bool → DeviceState
after_mute s on = record s { muted = on }

abbrev pub ask_answer : DeviceState → ℕ → Result Bool Refusal
ask_answer s x = cond (nat_lt x (2 ^ s.width)) (Ok (says s x)) (Err NumberOutsideWidth)

-- the slot that a call has put or emptied, or none if it was refused
abbrev pub written_by : {X : Type 0} → ℕ → Result X Refusal → List ℕ
written_by slot (Ok x) = slot ∷ []
written_by slot (Err e) = []
