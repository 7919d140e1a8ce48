use Rattle.std.proofs.Common.{sym, subst}
use Rattle.console.specs.StandsFor.{LineObeyed}
use Rattle.console.proofs.Stages.{kept_line}
use Rattle.console.proofs.stage.answer.Goals as goal

pub returns : goal.returns
returns g c = record {
  obeyed = λ text e.
      subst (λ t. LineObeyed g.D.RowDevice c.args.console.now t c.answer.result c.answer.new.self) (sym (kept_line _ _ _ text c.ok_or.ensures.ok_part c.in_ok-ok_or.was e)) c.answer.ensures.obeyed;
}
