use Rattle.std.proofs.Common.{subst}
use Rattle.console.specs.StandsFor.{ConsoleStandsForOne}
use Rattle.console.proofs.console.Console.slot_count.Goals as goal

pub returns-clause-stands : goal.returns-clause-stands
returns-clause-stands g c = subst (ConsoleStandsForOne g.D.RowDevice) c.self.view_is (c.slots_kept.ensures.stands, c.self.invariant)
