use Rattle.covers.proofs.Exactness.{runs_exact}
use Rattle.covers.proofs.Shortness.{bounded}
use Rattle.covers.proofs.theorems.several_runs_are_exact_and_bounded.Goals as goal

pub returns : goal.returns
returns c = record { holds = record { exact = runs_exact; bounded = bounded } }
