use Rattle.std.proofs.Common.{sym, ◌∙◌}
use Rattle.sheets.proofs.Readings.{sheet_says}
use Rattle.sheets.proofs.theorems.sheets_have_one_reading.Goals as goal

pub returns : goal.returns
returns c =
    record {
      holds = λ sheet v w rows others p q.
          let a = sheet_says v rows sheet p in
          let b = sheet_says w others sheet q in
          (sym a.width_is ∙ b.width_is, sym a.rows_are ∙ b.rows_are);
    }
