use Rattle.std.proofs.Common.{◌≡◌, ◌%◌, ◌^◌, Some, ap, ◌∙◌, ap₂, rules}
use Rattle.rows.specs.Widths.{places_of}
use Rattle.device.specs.States.{Slot}
use Rattle.slot_table.specs.SlotTables.{slot_of}
use Rattle.rows.proofs.MadeRows.{is_made}
use lib.Bits.{bit_and}
use Rattle.slot_table.proofs.record.SlotRecord.row.Goals as goal

pub returns-then-self : goal.returns-then-self
unfolding slot_of
returns-then-self c =
    let words = c.args.self in
    let care : c.from.result % c.limit.result ≡ words.care % 2 ^ places_of c.args.width = ap₂ ◌%◌ c.from.ensures c.limit.ensures.value in
    record {
      value = rw c.if-self.true (ap {B = Slot} Some
          (is_made c.new.result words.value (words.care % 2 ^ places_of c.args.width)
          (c.new.ensures.value ∙ ap (bit_and words.value) care) (c.new.ensures.care ∙ care)));
    }

pub returns-else-self : goal.returns-else-self
unfolding slot_of
returns-else-self c = search rules
