use Rattle.covers.proofs.Shortness.{shortest}
use Rattle.covers.proofs.theorems.lists_are_shortest.Goals as goal

pub returns : goal.returns
returns c = record { holds = shortest }
