use Rattle.std.proofs.Common.{◌≡◌, min, false, List, ◌++◌, length, drop, replicate, None, refl, sym, ap, ap₂, ◌∙◌, rules}
use Rattle.std.proofs.lemmas.List.{length-replicate}
use Rattle.rows.specs.Widths.{places_of}
use Rattle.slot_table.specs.declared.record.SlotRecord.{SlotRecord}
use Rattle.device.specs.States.{Slot, DeviceState}
use Rattle.slot_table.specs.SlotTables.{memory_with, record_of, table_state}
use Rattle.slot_table.proofs.Tables.{blank_records, blank_within, slots_of_memory, spare_of, spare_records_of}
use Rattle.slot_table.proofs.table.SlotTable.new.Goals as goal

pub returns : goal.returns
returns c =
    let rs = c.args.records.now in
    let w = c.args.width in
    let k = min 120 (length rs) in
    let blank = replicate {A = Slot} k None in
    let long : length blank ≡ k = length-replicate k None in
    let emptied : c.fill.new.self ++ drop c.min-used.result rs ≡ replicate k (record_of None) ++ drop k rs = search rules in
    let memory : c.fill.new.self ++ drop c.min-used.result rs ≡ memory_with blank rs =
    emptied ∙ ap₂ (λ (l m : List SlotRecord). l ++ m) (sym (blank_records k)) (spare_of rs) in
    record {
      begins =
          ap (λ (l : List SlotRecord). table_state (places_of w) l false) memory ∙
          ap {B = DeviceState} (λ (l : List Slot). record { width = places_of w; slots = l; muted = false })
          (slots_of_memory blank rs long (places_of w) (blank_within (places_of w) k));
      no_levels = refl;
      rest = ap (drop 120) memory ∙ spare_records_of blank rs long;
      memory = memory;
      same_memory = refl;
    }
