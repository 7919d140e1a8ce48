-- That the meaning of a slot table is lawful, whatever lies in its records, and that what it keeps is kept on.
use Rattle.std.proofs.Common.{refl, ◌∙◌, mod-lt, arith, length-take, pow_pos}
use Rattle.std.specs.Prelude.{ℕ, ◌%◌, ◌^◌, Bool, true, false, cond, List, [], ◌∷◌, ◌++◌, map, take, Some, None}
use Rattle.std.proofs.lemmas.List.{length-map}
use Rattle.std.proofs.lemmas.List.Elements.{Contains-append_left, Contains-append_right}
use Rattle.std.specs.List.{AllByRecursion}
use Rattle.rows.specs.Widths.{places_of}
use Rattle.rows.proofs.Widths.{places_some, places_most}
use Rattle.slot_table.specs.declared.record.SlotRecord.{SlotRecord}
use Rattle.slot_table.specs.declared.table.SlotTable.{SlotTable}
use Rattle.device.specs.States.{SlotWithin, Lawful}
use Rattle.rows.specs.MadeRows.{row_made}
use Rattle.slot_table.specs.SlotTables.{slot_of, table_slots, slot_table_state, KeepsRecords}

slot_within : (n : ℕ) (r : SlotRecord) → SlotWithin n (slot_of n r)
unfolding slot_of row_made
slot_within n r = go r.filled
  where
    go : (t : Bool) → SlotWithin n (cond t (Some (row_made r.value (r.care % 2 ^ n))) None)
    go true = mod-lt r.care (pow_pos n)
    go false = tt

slots_within : (n : ℕ) (records : List SlotRecord) → AllByRecursion (SlotWithin n) (map (slot_of n) records)
slots_within n [] = tt
slots_within n (r ∷ records) = (slot_within n r, slots_within n records)

pub table_lawful : (t : SlotTable) → Lawful (slot_table_state t)
unfolding table_slots
table_lawful t =
    let records = take 120 t.records.now in
    record {
      some_place = places_some t.width;
      few_places = places_most t.width;
      few_slots = omega (arith, length-map records (slot_of (places_of t.width)) ∙ length-take 120 t.records.now);
      rows_within = slots_within (places_of t.width) records;
    }

pub keeps_at_rest : (t : SlotTable) → KeepsRecords t [] t
keeps_at_rest t = record { same_memory = refl; spare = refl; unwritten = λ _ _. refl; of_its_slots = λ h. h }

pub keeps_on : (t u v : SlotTable) (before after : List ℕ) → KeepsRecords t before u → KeepsRecords u after v → KeepsRecords t (before ++ after) v
keeps_on t u v before after h k =
    record {
      same_memory = k.same_memory ∙ h.same_memory;
      spare = k.spare ∙ h.spare;
      unwritten = λ slot none.
          k.unwritten slot (λ c. none (Contains-append_right before after slot c)) ∙ h.unwritten slot (λ c. none (Contains-append_left before after slot c));
      of_its_slots = λ o. k.of_its_slots (h.of_its_slots o);
    }
