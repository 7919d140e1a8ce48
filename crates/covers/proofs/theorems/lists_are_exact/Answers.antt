use Rattle.covers.proofs.Exactness.{run_exact}
use Rattle.covers.proofs.theorems.lists_are_exact.Goals as goal

pub returns : goal.returns
returns c = record { holds = run_exact }
