use Rattle.std.proofs.Common.{◌≡◌, [], List, ◌++◌, map, sym, ap, ap₂, ◌∙◌, subst, rules}
use Rattle.slot_table.specs.declared.record.SlotRecord.{SlotRecord}
use Rattle.device.specs.States.{DeviceState}
use Rattle.slot_table.specs.SlotTables.{OfItsSlots, memory_with, record_of, records_of, slot_table_state}
use Rattle.layers.specs.Layers.{layer_levels, layer_state}
use Rattle.filter_calls.specs.Promises.{PromiseClosed}
use Rattle.filter_trial.proofs.records.replay_on_records.Goals as goal

from_there : (x y z : List SlotRecord) → y ≡ z → x ≡ y → x ≡ z
from_there x y z e h = h ∙ e

pub returns : goal.returns
returns g c =
    let outer = g.M.LineMap.carrying c.args.outer in
    let inner = g.N.LineMap.carrying c.args.inner in
    let was = c.args.records.now in
    let begins = c.new-table.ensures.begins in
    let rest = c.new-table.ensures.rest in
    let last = c.replay_on_lent.new.device in
    let t = slot_table_state last in
    let kept = c.replay_on_lent.ensures.beside.own in
    let begun : OfItsSlots c.new-table.result =
    c.new-table.ensures.memory ∙ ap₂ (λ (s : DeviceState) (l : List SlotRecord). map record_of s.slots ++ l) (sym begins) (sym rest) in
    let memory : records_of last ≡ memory_with t.slots was =
    kept.of_its_slots begun ∙ ap (λ (l : List SlotRecord). map record_of t.slots ++ l) (kept.spare ∙ rest) in
    let name = kept.same_memory ∙ c.new-table.ensures.same_memory in
    record {
      last_table = (
        t,
        from_there _ last.records.now _ memory (search (rules, name)),
        subst (λ (s : DeviceState). PromiseClosed (layer_state outer (layer_state inner s)) c.args.tag c.args.exchanges.now c.replay_on_lent.new.exchanges
            (layer_state outer (layer_state inner t)) (layer_levels outer (layer_state inner t) (layer_levels inner t [])))
            begins c.replay_on_lent.ensures.promise,
      );
    }
