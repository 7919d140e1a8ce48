use Rattle.covers.proofs.Masks.{and_again}
use Rattle.rows.proofs.row.Row.new.Goals as goal

pub invariant_of-result : goal.invariant_of-result
invariant_of-result c = record { clean = and_again c.args.value c.args.care }
