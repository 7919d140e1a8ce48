use Rattle.std.proofs.Common.{subst}
use Rattle.filter.specs.StandsFor.{StandsForOne}
use Rattle.filter.proofs.filter.Filter.held_by.Goals as goal

pub returns-then-self-clause-stands : goal.returns-then-self-clause-stands
returns-then-self-clause-stands g c = subst (StandsForOne g.D.RowDevice) c.self.view_is c.self.invariant

pub returns-else-self-clause-stands : goal.returns-else-self-clause-stands
returns-else-self-clause-stands g c = subst (StandsForOne g.D.RowDevice) c.self.view_is c.self.invariant
