use Rattle.covers.proofs.Equations.{equations_hold}
use Rattle.covers.proofs.theorems.rules_as_equations.Goals as goal

pub returns : goal.returns
returns c = record { holds = equations_hold }
