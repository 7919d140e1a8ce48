use Rattle.std.proofs.Common.{ℕ, List}
use Rattle.console.specs.Sessions.{Stage}
use Rattle.console.specs.SessionStands.{SessionStands}
use Rattle.console.proofs.Loops.{ClosedTo}
use Rattle.console.proofs.run.write_end.Given as goal

-- the closing lines before this one are written
abbrev pub invariant-loop-index : goal.invariant-loop-index
invariant-loop-index g l =
    (stage : Stage) (line : List ℕ) → SessionStands g.D.RowDevice l.fn.session stage line →
    ClosedTo g.D.RowDevice (g.W.Write.contents l.fn.output) (g.W.Write.contents l.output) stage line l.index l.session
