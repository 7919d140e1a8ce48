use Rattle.std.proofs.Common.{◌≡◌, ◌-◌, take, drop}
use Rattle.sheets.specs.Reading.{bits_of, symbols_of}
use Rattle.rows.specs.Memory.{words_of}
use Rattle.sheet.proofs.sheet_body.SheetBody.row_at.Given as goal

abbrev pub invariant-loop-index : goal.invariant-loop-index
invariant-loop-index l = l.row ≡ words_of (take (l.index - l.first) (drop l.first (symbols_of (bits_of l.self.bytes.now))))
