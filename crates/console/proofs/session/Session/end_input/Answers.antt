use Rattle.std.proofs.Common.{sym, subst}
use Rattle.console.specs.Sessions.{LinesAnswered}
use Rattle.console.specs.SessionStands.{printed}
use Rattle.console.proofs.Bytes.{something_open, one_answered}
use Rattle.console.proofs.session.Session.end_input.Goals as goal

pub returns : goal.returns
returns g c = record {
  ended = λ stage line k.
      let some = something_open line (sym (c.if-is_empty.ensures.value line k.open_line)) in
      let done = c.close_line.ensures.step stage line k in
      let output = printed c.close_line.result in
      record {
        next = done.next;
        answered = subst (λ l. LinesAnswered stage l output done.next) (sym some) (one_answered stage line output done.next done.answered);
        stands = record { at_stage = done.stands; open_line = c.close_line.ensures.empty };
      };
}
