use Rattle.std.proofs.Common.{◌≡◌, ◌++◌, map, take, drop}
use Rattle.rows.specs.Memory.{words_of}
use Rattle.sheets.proofs.Readings.{rows_in}
use Rattle.sheet.proofs.read.write_rows.Given as goal

abbrev pub invariant-loop-index : goal.invariant-loop-index
invariant-loop-index l = l.memory ≡ take l.index (map words_of (rows_in l.sheet)) ++ drop l.index l.initial.memory
