use Rattle.layers.proofs.Carried.{after_put_carried}
use Rattle.layers.proofs.layer.LayerRowDevice.put.Goals as goal

pub returns-clause-after : goal.returns-clause-after
returns-clause-after g c =
    let carrying = g.M.LineMap.carrying c.args.self.now.map in
    let s = g.D.RowDevice.state c.args.self.now.below in
    let w = g.D.RowDevice.lawful c.args.self.now.below in
    let k = g.M.LineMap.carries c.args.self.now.map s.width w.some_place w.few_places in
    after_put_carried carrying s k c.args.slot c.args.row c.row_below-carried.result _ c.row_below-carried.ensures.value c.put.ensures.after
