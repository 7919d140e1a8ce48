use Rattle.std.proofs.Common.{arith}
use Rattle.covers.specs.declared.symbol.Symbol.TheVariants.{Zero, One, Dash}
use Rattle.sheet.proofs.Extended.{words_push}
use Rattle.sheet.proofs.sheet_body.extended.Goals as goal
use Rattle.sheet.proofs.sheet_body.extended.Goals.{in-Zero, in-One, in-Dash}

pub returns : goal.returns
returns c =
    record {
      words = λ start e.
          elim c.match-symbol.branch [
            | in-Zero w ↦ rw (w.in-Zero.is, w.value-is) (words_push start Zero c.args.row _ _ e (omega arith) (omega arith))
            | in-One w ↦ rw (w.in-One.is, w.value-is) (words_push start One c.args.row _ _ e (omega arith) (omega arith))
            | in-Dash w ↦ rw (w.in-Dash.is, w.value-is) (words_push start Dash c.args.row _ _ e (omega arith) (omega arith))
          ];
    }
