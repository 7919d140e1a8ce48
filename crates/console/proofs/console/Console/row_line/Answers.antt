use Rattle.std.proofs.Common.{◌≡◌, get_or, Some, None, ◌∙◌, arith, subst}
use Rattle.std.specs.Option.{option_map}
use Rattle.std.proofs.lemmas.Grind.{common_steps}
use Rattle.console.specs.Closing.{slot_line}
use Rattle.console.specs.StandsFor.{ConsoleStandsForOne}
use Rattle.console.proofs.Slots.{ledger_line}
use Rattle.console.proofs.console.Console.row_line.Goals as goal

pub returns-in_err-row-clause-by_ledger : goal.returns-in_err-row-clause-by_ledger
returns-in_err-row-clause-by_ledger g c = λ b k.
    let s = g.D.RowDevice.state c.args.self.now.filter.device in
    let here : option_map (λ line. line.bytes) c.from_residual-in_err-row.result ≡ slot_line s.width (get_or s.slots c.args.slot None) = grind (arith, common_steps) in
    here ∙ ledger_line s.width s.slots b c.args.slot k.width k.slots

pub returns-clause-by_ledger : goal.returns-clause-by_ledger
returns-clause-by_ledger g c = λ b k.
    let s = g.D.RowDevice.state c.args.self.now.filter.device in
    let here : Some c.row_line.result.bytes ≡ slot_line s.width (get_or s.slots c.args.slot None) = grind (arith, common_steps) in
    here ∙ ledger_line s.width s.slots b c.args.slot k.width k.slots

pub returns-in_err-ok-clause-stands : goal.returns-in_err-ok-clause-stands
returns-in_err-ok-clause-stands g c = subst (ConsoleStandsForOne g.D.RowDevice) c.self.view_is (c.report_slot.ensures.stands, c.self.invariant)

pub returns-in_err-row-clause-stands : goal.returns-in_err-row-clause-stands
returns-in_err-row-clause-stands g c = subst (ConsoleStandsForOne g.D.RowDevice) c.self.view_is (c.report_slot.ensures.stands, c.self.invariant)

pub returns-clause-stands : goal.returns-clause-stands
returns-clause-stands g c = subst (ConsoleStandsForOne g.D.RowDevice) c.self.view_is (c.report_slot.ensures.stands, c.self.invariant)
