use Rattle.std.proofs.Common.{subst}
use Rattle.filter.specs.StandsFor.{StandsForOne}
use Rattle.filter.proofs.filter.Filter.width.Goals as goal

pub returns-clause-stands : goal.returns-clause-stands
returns-clause-stands g c = subst (StandsForOne g.D.RowDevice) c.self.view_is c.self.invariant
