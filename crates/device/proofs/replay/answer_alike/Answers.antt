use Rattle.std.proofs.Common.{◌≡◌, ◌+◌, List, drop, ◌∙◌, subst}
use Rattle.device.specs.declared.call.DeviceCall.{DeviceCall}
use Rattle.device.specs.Replays.{answers_to, call_writes, device_step, writes_of}
use Rattle.device.proofs.KeptOn.{KeptSoFar, kept_more}
use Rattle.device.proofs.Plays.{next_left, answers_more, after_more, alike_more}
use Rattle.device.proofs.SameAnswers.{answer_decides}
use Rattle.device.proofs.replay.answer_alike.Goals as goal

pub loop-call-preserved : goal.loop-call-preserved
loop-call-preserved g c =
    let cs = c.args.calls.now in
    let i = c.loop-call.call-index in
    let a = g.A.RowDevice.state c.loop-call.first in
    let b = g.B.RowDevice.state c.loop-call.second in
    let p = c.perform in
    let q = c.perform-in-loop-call in
    let a1 = g.A.RowDevice.state p.new.device in
    let b1 = g.B.RowDevice.state q.new.device in
    let item = c.call-item.result in
    let h = c.loop-call-test.true in
    let inv = c.loop-call.invariant in
    let a0 = g.A.RowDevice.state c.args.first.now in
    let b0 = g.B.RowDevice.state c.args.second.now in
    let next = next_left cs i item h c.call-item.is in
    let first_so_far = subst (λ (l : List DeviceCall). KeptSoFar g.A.RowDevice call_writes device_step c.args.first.now (writes_of a0 cs) c.loop-call.first a l) next inv.4 in
    let second_so_far = subst (λ (l : List DeviceCall). KeptSoFar g.B.RowDevice call_writes device_step c.args.second.now (writes_of b0 cs) c.loop-call.second b l) next inv.5 in
    let steps = alike_more {P = answers_to (g.A.RowDevice.state c.args.first.now) cs ≡ answers_to (g.B.RowDevice.state c.args.second.now) cs} c.loop-call.alike c.eq-alike.result p.result q.result
    (answers_to a1 (drop (i + 1) cs)) (answers_to b1 (drop (i + 1) cs)) (answers_to a (drop i cs)) (answers_to b (drop i cs))
    (answers_more a a1 cs i item p.result h c.call-item.is p.ensures.answer p.ensures.after)
    (answers_more b b1 cs i item q.result h c.call-item.is q.ensures.answer q.ensures.after)
    (answer_decides p.result q.result c.eq-alike.result c.eq-alike.ensures)
    inv.0 inv.1 in (
      steps.0,
      steps.1,
      after_more a a1 cs i item h c.call-item.is p.ensures.after ∙ inv.2,
      after_more b b1 cs i item h c.call-item.is q.ensures.after ∙ inv.3,
      kept_more g.A.RowDevice call_writes device_step c.args.first.now c.loop-call.first p.new.device (writes_of a0 cs) a a1 item (drop (i + 1) cs) first_so_far p.ensures.after p.ensures.beside,
      kept_more g.B.RowDevice call_writes device_step c.args.second.now c.loop-call.second q.new.device (writes_of b0 cs) b b1 item (drop (i + 1) cs) second_so_far q.ensures.after q.ensures.beside,
    )
