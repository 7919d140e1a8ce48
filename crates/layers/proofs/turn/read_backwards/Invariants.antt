use Rattle.std.proofs.Common.{◌≡◌, ◌^◌, ◌<◌}
use Rattle.layers.specs.Turns.{turned}
use Rattle.layers.proofs.turn.read_backwards.Given as goal

abbrev pub invariant-loop-place : goal.invariant-loop-place
invariant-loop-place l = (l.backwards ≡ turned l.place l.word) × (l.backwards < 2 ^ 32)
