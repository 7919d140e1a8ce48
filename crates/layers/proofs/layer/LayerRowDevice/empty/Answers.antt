use Rattle.layers.proofs.Carried.{after_empty_carried}
use Rattle.layers.proofs.layer.LayerRowDevice.empty.Goals as goal

pub returns-clause-after : goal.returns-clause-after
returns-clause-after g c =
    let carrying = g.M.LineMap.carrying c.args.self.now.map in
    let s = g.D.RowDevice.state c.args.self.now.below in
    after_empty_carried carrying s c.args.slot _ c.empty.ensures.after
