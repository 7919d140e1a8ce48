use Rattle.std.proofs.Common.{◌≡◌, ◌+◌, List, [], get_or, drop, refl, ◌∙◌, subst, arith}
use Rattle.std.proofs.lemmas.Grind.{common_steps}
use Rattle.std.proofs.lemmas.List.{drop_all}
use Rattle.device.specs.declared.call.DeviceCall.{DeviceCall}
use Rattle.device.specs.Exchanges.{calls_of}
use Rattle.device.specs.Replays.{call_writes, device_step, writes_of}
use Rattle.device.proofs.Plays.{calls_next, answered_more, after_more_exchanges}
use Rattle.device.proofs.KeptOn.{KeptSoFar, kept_from_start, kept_more, kept_to_end}
use Rattle.device.proofs.replay.replay.Goals as goal

pub loop-exchange-init : goal.loop-exchange-init
loop-exchange-init g c =
    (refl, refl, refl, kept_from_start g.D.RowDevice call_writes device_step c.args.device.now (g.D.RowDevice.state c.args.device.now) (calls_of c.args.exchanges.now))

pub loop-exchange-preserved : goal.loop-exchange-preserved
loop-exchange-preserved g c =
    let d = g.D.RowDevice in
    let es = c.args.exchanges.now in
    let now = c.loop-exchange.exchanges in
    let i = c.loop-exchange.exchange-index in
    let p = c.perform-exchange in
    let s = d.state c.loop-exchange.device in
    let t = d.state p.new.device in
    let item = c.exchange-item.result in
    let inv = c.loop-exchange.invariant in
    let all = writes_of (d.state c.args.device.now) (calls_of es) in
    let next = calls_next now es i item inv.0 (omega arith) c.exchange-item.is in
    let so_far = subst (λ (l : List DeviceCall). KeptSoFar d call_writes device_step c.args.device.now all c.loop-exchange.device s l) next inv.3 in (
      grind (arith, common_steps),
      answered_more device_step s t now es i item inv.0 (omega arith) c.exchange-item.is p.ensures.after p.result p.ensures.answer ∙ inv.1,
      after_more_exchanges device_step s t now es i item inv.0 (omega arith) c.exchange-item.is p.ensures.after ∙ inv.2,
      kept_more d call_writes device_step c.args.device.now c.loop-exchange.device p.new.device all s t (get_or now i item).call (calls_of (drop (i + 1) es)) so_far p.ensures.after p.ensures.beside,
    )

pub returns-clause-beside : goal.returns-clause-beside
returns-clause-beside g c =
    let d = g.D.RowDevice in
    let es = c.args.exchanges.now in
    let i = c.loop-exchange.exchange-index in
    let none : drop i es ≡ [] = drop_all i es c.loop-exchange-test.false in
    let all = writes_of (d.state c.args.device.now) (calls_of es) in
    kept_to_end d call_writes device_step c.args.device.now c.loop-exchange.device all (d.state c.loop-exchange.device)
    (subst (λ (l : List _). KeptSoFar d call_writes device_step c.args.device.now all c.loop-exchange.device (d.state c.loop-exchange.device) (calls_of l)) none c.loop-exchange.invariant.3)
