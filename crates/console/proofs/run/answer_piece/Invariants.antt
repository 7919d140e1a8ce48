use Rattle.std.proofs.Common.{ℕ, List}
use Rattle.console.specs.Sessions.{Stage}
use Rattle.console.specs.SessionStands.{SessionStands}
use Rattle.console.proofs.Loops.{TakenTo}
use Rattle.console.proofs.run.answer_piece.Given as goal

-- the bytes before this one are taken, and all that answers them is written
abbrev pub invariant-loop-byte : goal.invariant-loop-byte
invariant-loop-byte g l =
    (stage : Stage) (line : List ℕ) → SessionStands g.D.RowDevice l.initial.session stage line →
    TakenTo g.D.RowDevice (g.W.Write.contents l.initial.output) stage line l.piece (g.W.Write.contents l.output) l.byte-index l.session
