use Rattle.std.proofs.Common.{subst}
use Rattle.console.specs.StandsFor.{ConsoleStandsForOne}
use Rattle.console.proofs.console.Console.into_device.Goals as goal

pub returns-clause-stands : goal.returns-clause-stands
returns-clause-stands g c = subst (ConsoleStandsForOne g.D.RowDevice) c.self.view_is (c.into_device.ensures.stands, c.self.invariant)
