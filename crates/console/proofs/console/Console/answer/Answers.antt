use Rattle.std.proofs.Common.{rules, subst}
use Rattle.ledger.specs.Steps.{ask_step}
use Rattle.filter.specs.StandsFor.{Follows}
use Rattle.console.proofs.Obeyed.{edited, asked}
use Rattle.console.proofs.console.Console.answer.Goals as goal

pub returns-in_err-rows-in-Edit-clause-obeyed : goal.returns-in_err-rows-in-Edit-clause-obeyed
returns-in_err-rows-in-Edit-clause-obeyed g c =
    edited g.D.RowDevice c.args.self.now _ _ c.in_ok-edit.ensures.only _ c.in-Edit.edit c.edit.result _ c.in-Edit.is (search rules) c.edit.ensures.step

pub returns-in_ok-rows-in-Edit-clause-obeyed : goal.returns-in_ok-rows-in-Edit-clause-obeyed
returns-in_ok-rows-in-Edit-clause-obeyed g c =
    edited g.D.RowDevice c.args.self.now _ _ c.in_ok-edit.ensures.only _ c.in-Edit.edit c.edit.result _ c.in-Edit.is (search rules) c.edit.ensures.step

pub returns-in_err-said-in-Ask-clause-obeyed : goal.returns-in_err-said-in-Ask-clause-obeyed
returns-in_err-said-in-Ask-clause-obeyed g c =
    asked g.D.RowDevice c.args.self.now _ _ c.in_ok-edit.ensures.only _ c.in-Ask.number c.ask.result c.in-Ask.is (search rules)
    (subst (λ v. Follows g.D.RowDevice v.filter (ask_step c.in-Ask.number) c.ask.result v.filter) c.self.view_is c.ask.ensures.answer)

pub returns-in_ok-said-in-Ask-clause-obeyed : goal.returns-in_ok-said-in-Ask-clause-obeyed
returns-in_ok-said-in-Ask-clause-obeyed g c =
    asked g.D.RowDevice c.args.self.now _ _ c.in_ok-edit.ensures.only _ c.in-Ask.number c.ask.result c.in-Ask.is (search rules)
    (subst (λ v. Follows g.D.RowDevice v.filter (ask_step c.in-Ask.number) c.ask.result v.filter) c.self.view_is c.ask.ensures.answer)
