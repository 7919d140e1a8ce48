use Rattle.console.specs.Loops.{RunSoFar}
use Rattle.console.proofs.run.run.Given as goal

-- the pieces before are taken, and all that answers them is written
abbrev pub invariant-loop : goal.invariant-loop
invariant-loop g l =
    RunSoFar g.D.RowDevice (g.R.Read.remaining l.fn.input) (g.R.Read.remaining l.input) (g.W.Write.contents l.fn.output) (g.W.Write.contents l.output) l.session
