use Rattle.std.proofs.Common.{false}
use Rattle.std.proofs.Math.Logic.{∥∥₁_map}
use Rattle.ledger.specs.Ledger.{freed}
use Rattle.filter.proofs.Opened.{stands_marked}
use Rattle.filter.proofs.filter.Filter.release.Goals as goal

pub invariant_of-self : goal.invariant_of-self
invariant_of-self g c = ∥∥₁_map c.self.invariant (λ p. (freed p.0, stands_marked _ _ _ _ p.0 p.1 false _ c.mute.ensures.after))
