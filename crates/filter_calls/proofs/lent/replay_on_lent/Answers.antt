use Rattle.std.proofs.Common.{◌≡◌, ℕ, List, sym, ◌∙◌, subst, rules}
use Rattle.device.specs.declared.device.RowDevice.{Ghosts}
use Rattle.device.specs.declared.exchange.Exchange.{Exchange}
use Rattle.device.specs.Levels.{Carrying}
use Rattle.device.specs.States.{DeviceState}
use Rattle.layers.specs.Layers.{layer_levels, layer_state}
use Rattle.filter_calls.specs.declared.call.FilterCall.{FilterCall}
use Rattle.filter_calls.specs.Promises.{PromiseClosed}
use Rattle.filter_calls.specs.Replays.{Answer}
use Rattle.filter_calls.proofs.lent.replay_on_lent.Goals as goal

-- the promise of the device that was lent is that of the device that comes back
come_back : {D : Type 0} (d : Ghosts D) (outer inner : ℕ → Carrying) (s : DeviceState) (tag : ℕ) (was now : List (Exchange FilterCall Answer)) (x y : D) → x ≡ y →
    PromiseClosed s tag was now (layer_state outer (layer_state inner (d.state y))) (layer_levels outer (layer_state inner (d.state y)) (layer_levels inner (d.state y) (d.levels y))) →
    PromiseClosed s tag was now (layer_state outer (layer_state inner (d.state x))) (layer_levels outer (layer_state inner (d.state x)) (layer_levels inner (d.state x) (d.levels x)))
come_back {D} d outer inner s tag was now x y e p =
    subst (λ (z : D). PromiseClosed s tag was now (layer_state outer (layer_state inner (d.state z))) (layer_levels outer (layer_state inner (d.state z)) (layer_levels inner (d.state z) (d.levels z)))) (sym e) p

pub returns-clause-promise : goal.returns-clause-promise
returns-clause-promise g c =
    let d = g.D.RowDevice in
    let outer = g.M.LineMap.carrying c.args.outer in
    let inner = g.N.LineMap.carrying c.args.inner in
    let last = c.replay_and_end-lent.result in
    let name = c.replay_and_end-lent.ensures.beside.own.0 ∙ c.new-lent.ensures.same_device in
    let promise = rw c.new-lent.ensures.means at c.replay_and_end-lent.ensures.promise in
    come_back d outer inner _ c.args.tag c.args.exchanges.now c.replay_and_end-lent.new.exchanges _ last.device.now (search (rules, name)) promise
