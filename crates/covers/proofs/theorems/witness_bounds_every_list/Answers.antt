use Rattle.covers.proofs.Shortness.{lower_bound}
use Rattle.covers.proofs.theorems.witness_bounds_every_list.Goals as goal

pub returns : goal.returns
returns c = record { holds = lower_bound }
