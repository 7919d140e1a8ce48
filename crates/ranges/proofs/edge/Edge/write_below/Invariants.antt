use Rattle.std.proofs.Common.{◌++◌}
use Rattle.ranges.specs.Building.{edge_words}
use Rattle.ranges.proofs.EdgeSteps.{Going}
use Rattle.ranges.proofs.edge.Edge.write_below.Given as goal

abbrev pub invariant-loop-self : goal.invariant-loop-self
invariant-loop-self l = Going l.self l.left l.rows.items (l.initial.rows.items ++ edge_words l.self)

abbrev pub decreases-loop-self : goal.decreases-loop-self
decreases-loop-self l = l.left
