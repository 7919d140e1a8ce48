use Rattle.std.proofs.Common.{rules}
use Rattle.rows.proofs.MadeRows.{is_made}
use Rattle.layers.proofs.ByDigits.{flips_symbols}
use Rattle.layers.proofs.flip.FlipLineMap.row_there.Goals as goal

pub returns-clause-carried : goal.returns-clause-carried
returns-clause-carried c = is_made _ _ _ (cc) (cc)

pub returns-clause-by_symbols : goal.returns-clause-by_symbols
returns-clause-by_symbols c = search (rules, flips_symbols)
