use Rattle.device.proofs.SymbolTakes.{row_by_symbols, slots_by_symbols}
use Rattle.device.proofs.theorems.slots_take_by_symbols.Goals as goal

pub returns : goal.returns
returns c =
    record {
      holds = record { by_row = row_by_symbols; by_slots = λ s x h. slots_by_symbols s.width s.slots x h.rows_within };
    }
