use Rattle.std.proofs.Common.{sym, subst}
use Rattle.console.specs.SessionStands.{LineClosed}
use Rattle.console.specs.declared.stage.Stage.TheVariants.{Running}
use Rattle.console.proofs.Stages.{first_line, later_line}
use Rattle.console.proofs.stage.Stage.take_line.Goals as goal

pub returns-in-Ok : goal.returns-in-Ok
returns-in-Ok g c = record { step = λ stage text k e. first_line g.D.RowDevice text c.args.self.now stage c.in-Ok.console c.in-Waiting.is k (c.in-Ok.ensures.begun text e) }

pub returns-in-Running : goal.returns-in-Running
returns-in-Running g c = record {
  step = λ stage text k e.
      subst (λ t. LineClosed g.D.RowDevice stage text t (Running c.answer.new.console)) (sym c.reply_line-in-Running.ensures.bytes)
      (later_line g.D.RowDevice text c.args.self.now stage c.in-Running.console c.answer.new.console c.answer.result c.in-Running.is k (c.answer.ensures.obeyed text e));
}
