use Rattle.std.proofs.Common.{◌++◌}
use Rattle.covers.specs.WitnessNumbers.{each_turned}
use Rattle.ranges.proofs.TurnedSteps.{Turning}
use Rattle.ranges.proofs.turned.write_each_turned.Given as goal

abbrev pub invariant-loop-left : goal.invariant-loop-left
invariant-loop-left l = Turning l.one l.number l.left l.numbers.items (l.initial.numbers.items ++ each_turned l.one l.places l.number)

abbrev pub decreases-loop-left : goal.decreases-loop-left
decreases-loop-left l = l.left
