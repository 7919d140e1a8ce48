use Rattle.std.proofs.Common.{◌≡◌, ℕ, length, sym, ap, ◌∙◌, subst}
use Rattle.std.proofs.lemmas.List.{length-map}
use Rattle.device.specs.Exchanges.{calls_of}
use Rattle.device.specs.Levels.{carried_slot}
use Rattle.layers.specs.Layers.{composed, layer_levels, layer_state}
use Rattle.ledger.specs.Ledger.{Ledger, freed, opened}
use Rattle.filter_calls.specs.Promises.{PromiseBeneath, PromiseClosed, closed_ledger}
use Rattle.filter_calls.specs.Replays.{after_calls}
use Rattle.filter_calls.proofs.Written.{width_stays}
use Rattle.filter_calls.proofs.layered.replay_over_layers.Goals as goal

pub returns-clause-promise : goal.returns-clause-promise
returns-clause-promise g c =
    let d = g.D.RowDevice in
    let carrying = g.N.LineMap.carrying in
    let outer = g.M.LineMap.carrying c.args.outer in
    let new = c.new-layer.result in
    let last = c.replay_over_layer-outer.result.1 in
    let device = c.args.device in
    let inner = c.args.inner in
    let P : g.row.N.Denot → g.row.N.Denot → g.row.D.Denot → g.row.D.Denot → Type 0 =
    λ before after old now.
    PromiseClosed (layer_state outer (layer_state (carrying before) (d.state old))) c.args.tag c.args.exchanges.now c.replay_over_layer-outer.new.exchanges
    (layer_state outer (layer_state (carrying after) (d.state now))) (layer_levels outer (layer_state (carrying after) (d.state now)) (layer_levels (carrying after) (d.state now) (d.levels now))) in
    let by_map = subst (λ (m : g.row.N.Denot). P m last.map new.below last.below) c.new-layer.ensures.map c.replay_over_layer-outer.ensures.promise in
    let by_both = subst (λ (m : g.row.N.Denot). P inner m new.below last.below) (c.replay_over_layer-outer.ensures.beside.own.0 ∙ c.new-layer.ensures.map) by_map in
    let by_device = subst (λ (x : g.row.D.Denot). P inner inner x last.below) c.new-layer.ensures.below by_both in
    subst (P inner inner device) (sym c.into_parts-inner.ensures.below) by_device

pub returns-clause-below : goal.returns-clause-below
returns-clause-below g c =
    let outer = g.M.LineMap.carrying c.args.outer in
    let inner = g.N.LineMap.carrying c.args.inner in
    let s = g.D.RowDevice.state c.args.device in
    let t = g.D.RowDevice.state c.into_parts-inner.result.1 in
    let tag = c.args.tag in
    let was = c.args.exchanges.now in
    let promise = returns-clause-promise g c in
    let through = layer_state inner s in
    let count : length (layer_state outer through).slots ≡ length s.slots =
    length-map through.slots (carried_slot (outer s.width).row_back) ∙ length-map s.slots (carried_slot (inner s.width).row_back) in
    let ledger : closed_ledger (layer_state outer through) tag was ≡ closed_ledger s tag was = ap (λ (k : ℕ). freed (after_calls (opened s.width k tag) (calls_of was))) count in
    let width : t.width ≡ s.width = promise.kept.width ∙ width_stays (opened s.width (length (layer_state outer through).slots) tag) (calls_of was) in
    subst (λ (b : Ledger). PromiseBeneath b (record { carrying = composed (outer s.width) (inner s.width); slots = t.slots })) ledger
    (subst (λ (n : ℕ). PromiseBeneath (closed_ledger (layer_state outer through) tag was) (record { carrying = composed (outer n) (inner n); slots = t.slots })) width promise.kept.beneath.1.0)
