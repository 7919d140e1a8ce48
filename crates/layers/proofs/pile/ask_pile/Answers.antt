use Rattle.std.proofs.ByRecursion.{All-weaker}
use Rattle.device.specs.Levels.{Beneath}
use Rattle.layers.specs.Piles.{Alike}
use Rattle.layers.proofs.Rivals.{level_alike}
use Rattle.layers.proofs.pile.ask_pile.Goals as goal

pub returns-clause-levels : goal.returns-clause-levels
returns-clause-levels g c =
    let d = g.D.RowDevice in
    let pile = c.args.pile.now in
    All-weaker (Beneath (d.state pile)) (Alike (d.state pile)) (λ l b. level_alike (d.state pile) l (d.lawful pile) b) (d.levels pile) (d.beneath pile)
