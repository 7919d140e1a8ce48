use Rattle.std.proofs.Common.{◌≡◌, ◌++◌, take, drop}
use Rattle.rows.specs.Widths.{places_of}
use Rattle.sheet.specs.Packing.{sheet_of}
use Rattle.sheet.proofs.sheet_rows.SheetRows.write.Given as goal

abbrev pub invariant-loop-index : goal.invariant-loop-index
invariant-loop-index l = l.memory ≡ take l.index (sheet_of (places_of l.self.width) l.self.rows.now) ++ drop l.index l.initial.memory
