use Rattle.std.proofs.Common.{sym, ◌∙◌, subst}
use Rattle.filter.specs.StandsFor.{StandsFor, StandsForOne}
use Rattle.filter.proofs.Laid.{ask_by_ledger}
use Rattle.filter.proofs.filter.Filter.ask.Goals as goal

pub returns-then-not-self-clause-answer : goal.returns-then-not-self-clause-answer
returns-then-not-self-clause-answer g c b s =
    let d = g.D.RowDevice in
    let within = subst (λ f. StandsFor d f b) (sym c.self.view_is) s in (
      sym c.in_ok-said.was ∙ c.ask.ensures.answer ∙
          ask_by_ledger b _ (d.lawful c.self.inside.device) within.width within.muted within.slots (sym within.held ∙ c.if-not-self.true) c.args.number,
      s,
    )

pub returns-then-not-self-clause-stands : goal.returns-then-not-self-clause-stands
returns-then-not-self-clause-stands g c = subst (StandsForOne g.D.RowDevice) c.self.view_is c.self.invariant

pub returns-in_err-said-clause-stands : goal.returns-in_err-said-clause-stands
returns-in_err-said-clause-stands g c = subst (StandsForOne g.D.RowDevice) c.self.view_is c.self.invariant

pub returns-clause-stands : goal.returns-clause-stands
returns-clause-stands g c = subst (StandsForOne g.D.RowDevice) c.self.view_is c.self.invariant
