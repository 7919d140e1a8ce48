use Rattle.std.proofs.Common.{refl}
use Rattle.covers.specs.Digits.{value}
use Rattle.sheets.specs.Format.{sheet_bits, bytes, bytes_of}
use Rattle.sheets.proofs.theorems.worked_example.Goals as goal

pub returns : goal.returns
unfolding value sheet_bits bytes bytes_of
returns c = record { holds = refl }
