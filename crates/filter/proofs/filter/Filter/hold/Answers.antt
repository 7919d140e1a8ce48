use Rattle.std.proofs.Common.{true, subst}
use Rattle.std.proofs.Math.Logic.{∥∥₁_map}
use Rattle.filter.specs.StandsFor.{StandsForOne}
use Rattle.filter.proofs.Opened.{stands_marked}
use Rattle.filter.proofs.filter.Filter.hold.Goals as goal

pub invariant_of-self : goal.invariant_of-self
invariant_of-self g c = ∥∥₁_map c.self.invariant (λ p. (record p.0 { held = true }, stands_marked _ _ _ _ p.0 p.1 true _ c.mute.ensures.after))

pub returns-then-self-clause-stood : goal.returns-then-self-clause-stood
returns-then-self-clause-stood g c = subst (StandsForOne g.D.RowDevice) c.self.view_is c.self.invariant

pub returns-clause-stood : goal.returns-clause-stood
returns-clause-stood g c = subst (StandsForOne g.D.RowDevice) c.self.view_is c.self.invariant
