-- Slots emptied one after the other.
use Rattle.std.proofs.Common.{◌≡◌, ℕ, ◌+◌, ◌-◌, ◌<◌, ◌≤◌, min, [], ◌∷◌, length, replicate, None, sym, ap, subst, ◌∙◌, arith}
use Rattle.std.proofs.lemmas.List.{length-replicate, replicate_more}
use Rattle.std.proofs.lemmas.Bool.{lt-ltb}
use Rattle.rows.specs.Memory.{written}
use Rattle.rows.proofs.Writing.{written_none, written_one, written_join, length_written}
use Rattle.device.specs.States.{Slot, DeviceState}
use Rattle.device.specs.Answers.{with_slot, after_empty}

-- so many slots emptied from one on
abbrev pub emptied_slots : DeviceState → ℕ → ℕ → DeviceState
emptied_slots s from k = record s { slots = written s.slots from (replicate k None) }

empty_slot : (s : DeviceState) (slot : ℕ) → slot < length s.slots → after_empty s slot ≡ with_slot s slot None
empty_slot s slot h = rw (lt-ltb slot (length s.slots) h)

emptied_more : (s : DeviceState) (from slot : ℕ) → from ≤ slot → slot < length s.slots →
    after_empty (emptied_slots s from (slot - from)) slot ≡ emptied_slots s from (slot + 1 - from)
emptied_more s from slot le h =
    let k = slot - from in
    let long = length-replicate {A = Slot} (slot - from) None in
    let at : slot ≡ from + length (replicate {A = Slot} (slot - from) None) = omega arith in
    let size = length_written (replicate (slot - from) None) s.slots from (omega arith) in
    let more : slot - from + 1 ≡ slot + 1 - from = omega arith in
    empty_slot (emptied_slots s from (slot - from)) slot (omega arith) ∙
    ap (λ l. record s { slots = l })
    (sym (written_one (written s.slots from (replicate (slot - from) None)) slot None (omega arith)) ∙
    ap (λ j. written (written s.slots from (replicate (slot - from) None)) j (None ∷ [])) at ∙
    written_join (replicate (slot - from) None) (None ∷ []) s.slots from (omega arith) ∙
    ap (written s.slots from) (replicate_more (slot - from) None ∙ ap (λ j. replicate j None) more))

-- no slot emptied yet
pub emptied_none : (s : DeviceState) (from k : ℕ) → 0 ≡ k → s ≡ emptied_slots s from k
emptied_none s from k e = subst (λ (j : ℕ). s ≡ emptied_slots s from j) e (ap (λ l. record s { slots = l }) (sym (written_none s.slots from)))

pub emptied_length : (s : DeviceState) (from k : ℕ) → from + k ≤ length s.slots → length (emptied_slots s from k).slots ≡ length s.slots
emptied_length s from k h = let long = length-replicate {A = Slot} k None in length_written (replicate k None) s.slots from (omega arith)

-- how many slots are emptied once this one is reached
abbrev pub emptied_count : DeviceState → ℕ → ℕ → ℕ
emptied_count s from slot = min slot (length s.slots) - from

pub emptied_step : (s : DeviceState) (from slot : ℕ) → from ≤ slot → slot < length s.slots →
    after_empty (emptied_slots s from (emptied_count s from slot)) slot ≡ emptied_slots s from (emptied_count s from (slot + 1))
emptied_step s from slot le h =
    let a : min slot (length s.slots) - from ≡ slot - from = omega arith in
    let b : slot + 1 - from ≡ min (slot + 1) (length s.slots) - from = omega arith in
    ap (λ k. after_empty (emptied_slots s from k) slot) a ∙ emptied_more s from slot le h ∙ ap (emptied_slots s from) b
