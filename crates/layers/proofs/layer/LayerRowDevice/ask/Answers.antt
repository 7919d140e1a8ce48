use Rattle.layers.proofs.Carried.{ask_carried}
use Rattle.layers.proofs.layer.LayerRowDevice.ask.Goals as goal

pub returns : goal.returns
returns g c =
    let carrying = g.M.LineMap.carrying c.args.self.now.map in
    let s = g.D.RowDevice.state c.args.self.now.below in
    let w = g.D.RowDevice.lawful c.args.self.now.below in
    let k = g.M.LineMap.carries c.args.self.now.map s.width w.some_place w.few_places in
    record { answer = ask_carried carrying s k w.rows_within c.args.number _ _ _ c.number_below-carried.ensures.value c.ask.ensures.answer c.in_ok-said.was }
