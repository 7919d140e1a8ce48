use Rattle.std.proofs.Common.{ℕ, ◌<◌, ◌≤◌, List, ◌++◌, length, get_or, take, refl, sym, ap, ◌∙◌, subst, append-nil, arith, take_all}
use Rattle.std.proofs.lemmas.Grind.{common_steps}
use Rattle.std.proofs.lemmas.List.{drop_all}
use Rattle.device.specs.declared.exchange.Exchange.{Exchange}
use Rattle.device.specs.Exchanges.{calls_of}
use Rattle.filter_calls.specs.declared.call.FilterCall.{FilterCall}
use Rattle.filter_calls.specs.Promises.{first_ledger, last_ledger}
use Rattle.filter_calls.specs.Replays.{Answer, call_step, answer_writes, answered_in_full, after_calls, as_compared, answered_writes, full_step}
use Rattle.device.specs.KeptBeside.{KeptBeside}
use Rattle.device.specs.KeptBesideLaws.{kept_on}
use Rattle.device.proofs.Plays.{after_more_exchanges, answered_more}
use Rattle.filter.specs.StandsFor.{StandsFor}
use Rattle.filter.specs.Writes.{all_slots}
use Rattle.filter.proofs.Edited.{slots_known}
use Rattle.filter_calls.proofs.Written.{kept_call, size_stays}
use Rattle.filter_calls.proofs.Kept.{promise_kept}
use Rattle.filter_calls.proofs.Told.{at_hand}
use Rattle.filter_calls.proofs.ToldInFull.{answered_compared, same_next}
use Rattle.filter_calls.proofs.replay.play.Goals as goal

pub loop-exchange-preserved : goal.loop-exchange-preserved
loop-exchange-preserved g c = λ first s.
    let d = g.D.RowDevice in
    let start = c.open.result.device in
    let f = c.loop-exchange.player.filter in
    let es = c.loop-exchange.exchanges in
    let was = c.args.exchanges.now in
    let i = c.loop-exchange.exchange-index in
    let item = c.exchange-item.result in
    let p = c.perform-exchange in
    let inv = c.loop-exchange.invariant first s in
    let b = inv.0 in
    let call = (get_or es i item).call in
    let h : i < length es = omega arith in
    let next = (call_step call b).1 in
    let step = p.ensures.step b inv.1 in
    let count = slots_known d f b inv.1 ∙ inv.5 in
    let written = subst (λ (k : ℕ). KeptBeside d f.device (answer_writes k p.result) p.new.self.filter.device) count p.ensures.beside in (
      next,
      step.1,
      grind (arith, common_steps),
      answered_more full_step b next es was i item inv.2 h c.exchange-item.is (sym (same_next b call)) p.result (p.ensures.in_full b inv.1).0 ∙ inv.3,
      after_more_exchanges call_step b next es was i item inv.2 h c.exchange-item.is refl ∙ inv.4,
      (size_stays b call).slots ∙ inv.5,
      kept_call d start f.device p.new.self.filter.device first.slots es i (record { call = call; answer = p.result }) h inv.6 written,
    )

pub returns : goal.returns
returns g c =
    let d = g.D.RowDevice in
    let f = c.loop-exchange.player.filter in
    let first = first_ledger (d.state c.args.device) c.args.tag in
    let inv = c.loop-exchange.invariant first c.open.ensures.opened in
    let b = inv.0 in
    let was = c.args.exchanges.now in
    let es = c.loop-exchange.exchanges in
    let i = c.loop-exchange.exchange-index in
    let none = drop_all i was c.loop-exchange-test.false in
    let h : length es ≤ i = omega arith in
    let last = sym (ap (λ (l : List (Exchange FilterCall Answer)). after_calls b (calls_of l)) none) ∙ inv.4 in
    let stands = subst (StandsFor d f) last inv.1 in
    let full = sym (ap (λ (l : List (Exchange FilterCall Answer)). take i es ++ answered_in_full b (calls_of l)) none ∙ append-nil (take i es) ∙ take_all i es h) ∙ inv.3 in
    record {
      promise = record {
        answers = ap as_compared full ∙ answered_compared first (calls_of was);
        in_full = full;
        kept = promise_kept d f _ stands;
      };
      stands = stands;
      beside =
          kept_on d c.args.device c.open.result.device f.device (all_slots (length (d.state c.args.device).slots)) (answered_writes (length (d.state c.args.device).slots) es) c.open.ensures.beside
          (subst (λ (l : List (Exchange FilterCall Answer)). KeptBeside d c.open.result.device (answered_writes (length (d.state c.args.device).slots) l) f.device) (take_all i es h) inv.6);
      token = at_hand f.held f.tag (last_ledger (d.state c.args.device) c.args.tag was) c.loop-exchange.player.token stands.held stands.tag c.loop-exchange.player.at_hand;
    }
