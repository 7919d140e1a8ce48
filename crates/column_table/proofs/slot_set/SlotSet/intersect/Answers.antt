use Rattle.covers.proofs.RowWords.{digit_and}
use Rattle.column_table.proofs.slot_set.SlotSet.intersect.Goals as goal

pub returns : goal.returns
returns c = record { value = λ i. digit_and i c.args.self.now.bits c.args.other.bits }
