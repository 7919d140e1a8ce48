use Rattle.std.proofs.Common.{subst}
use Rattle.filter.specs.StandsFor.{StandsForOne}
use Rattle.filter.proofs.filter.Filter.report_slot.Goals as goal

pub returns-in_err-content-clause-stands : goal.returns-in_err-content-clause-stands
returns-in_err-content-clause-stands g c = subst (StandsForOne g.D.RowDevice) c.self.view_is c.self.invariant

pub returns-clause-stands : goal.returns-clause-stands
returns-clause-stands g c = subst (StandsForOne g.D.RowDevice) c.self.view_is c.self.invariant
