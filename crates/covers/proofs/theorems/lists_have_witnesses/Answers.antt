use Rattle.covers.proofs.Shortness.{witnessed}
use Rattle.covers.proofs.theorems.lists_have_witnesses.Goals as goal

pub returns : goal.returns
returns c = record { holds = witnessed }
