use Rattle.circle.proofs.Untouched.{runs_untouched}
use Rattle.circle.proofs.theorems.runs_do_not_touch.Goals as goal

pub returns : goal.returns
returns c = record { holds = runs_untouched }
