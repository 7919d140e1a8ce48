use Rattle.std.proofs.Common.{refl}
use Rattle.covers.specs.Rules.{rows_of_range}
use Rattle.covers.proofs.theorems.examples_follow_the_rules.Goals as goal

pub returns : goal.returns
unfolding rows_of_range
returns c = record { holds = refl }
