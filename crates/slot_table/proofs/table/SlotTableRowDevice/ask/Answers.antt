use Rattle.std.proofs.Common.{◌≡◌, ℕ, ◌^◌, ◌<◌, ◌≤◌, min, true, false, length, take, Ok, sym, ap, ◌∙◌, arith, rules}
use Rattle.rows.specs.Widths.{places_of}
use Rattle.slot_table.specs.declared.table.SlotTable.{SlotTable}
use Rattle.device.specs.States.{Slot, slot_takes, some_slot_takes}
use Rattle.device.specs.Answers.{ask_answer}
use Rattle.slot_table.specs.SlotTables.{table_slots, slot_table_state}
use Rattle.device.proofs.Granted.{ask_is, says_none, says_some}
use Rattle.device.proofs.Slots.{none_more, none_all, one_takes}
use Rattle.slot_table.proofs.Tables.{table_length, table_at}
use Rattle.slot_table.proofs.table.SlotTableRowDevice.ask.Goals as goal

pub returns-then-is_some_and : goal.returns-then-is_some_and
returns-then-is_some_and c =
    let t = c.args.self.now in
    let rs = t.records.now in
    let n = (places_of t.width) in
    let x = c.args.number in
    let fit : x < 2 ^ n = search rules in
    let within : c.loop-slot.slot < length (table_slots n rs) = omega (arith, table_length n rs) in
    let takes : slot_takes c.row.result x ≡ true = search rules in
    let hit = one_takes x (table_slots n rs) c.loop-slot.slot within
    (ap (λ (s : Slot). slot_takes s x) (table_at n rs c.loop-slot.slot _ within ∙ sym c.row.ensures.value) ∙ takes) in
    record { answer = ask_is (slot_table_state t) x true fit (says_some (slot_table_state t) x c.if-self.false hit) }

pub loop-slot-preserved : goal.loop-slot-preserved
loop-slot-preserved c =
    let t = c.args.self.now in
    let rs = t.records.now in
    let n = (places_of t.width) in
    let x = c.args.number in
    let within : c.loop-slot.slot < length (table_slots n rs) = omega (arith, table_length n rs) in
    let passed : slot_takes c.row.result x ≡ false = search rules in
    none_more x (table_slots n rs) c.loop-slot.slot within c.loop-slot.invariant
    (ap (λ (s : Slot). slot_takes s x) (table_at n rs c.loop-slot.slot _ within ∙ sym c.row.ensures.value) ∙ passed)

-- all slots were passed
passed_all : (t : SlotTable) (x i : ℕ) → x < 2 ^ (places_of t.width) → min 120 (length t.records.now) ≤ i →
    some_slot_takes (take i (table_slots (places_of t.width) t.records.now)) x ≡ false → Ok false ≡ ask_answer (slot_table_state t) x
passed_all t x i fit past none =
    let slots = table_slots (places_of t.width) t.records.now in
    let long = table_length (places_of t.width) t.records.now in
    ask_is (slot_table_state t) x false fit (says_none (slot_table_state t) x (none_all x slots i (omega arith) none))

pub returns-after-loop-slot : goal.returns-after-loop-slot
returns-after-loop-slot c =
    let t = c.args.self.now in
    let fit : c.args.number < 2 ^ (places_of t.width) = search rules in
    record { answer = passed_all t c.args.number c.loop-slot.slot fit (omega arith) c.loop-slot.invariant }
