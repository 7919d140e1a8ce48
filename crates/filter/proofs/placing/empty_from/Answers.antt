use Rattle.std.proofs.Common.{◌≡◌, ℕ, ◌+◌, ap, ◌∙◌, subst, arith}
use Rattle.std.specs.List.{range_with_len}
use Rattle.device.specs.Answers.{empty_answer, after_empty}
use Rattle.device.specs.KeptBeside.{KeptBeside}
use Rattle.filter.proofs.Emptying.{emptied_slots, emptied_count, emptied_length, emptied_none, emptied_step}
use Rattle.filter.proofs.Written.{empty_granted, kept_first, kept_one_more}
use Rattle.filter.proofs.placing.empty_from.Goals as goal

pub loop-slot-init : goal.loop-slot-init
loop-slot-init g c =
    let none : 0 ≡ emptied_count (g.D.RowDevice.state c.args.device.now) c.args.from c.args.from = omega arith in
    (emptied_none (g.D.RowDevice.state c.args.device.now) c.args.from _ none, subst (λ (k : ℕ). KeptBeside g.D.RowDevice c.args.device.now (range_with_len c.args.from k) c.args.device.now) none (kept_first g.D.RowDevice c.args.device.now c.args.from))

pub loop-slot-preserved : goal.loop-slot-preserved
loop-slot-preserved g c =
    let d = g.D.RowDevice in
    let s = d.state c.args.device.now in
    let from = c.args.from in
    let slot = c.loop-slot.slot in
    let e = c.slot_count-slot-end.ensures.answer in
    let k = emptied_count s from slot in
    let within = emptied_length s from k (omega arith) in
    let granted = c.empty.ensures.answer ∙ ap (λ t. empty_answer t slot) c.loop-slot.invariant.0 ∙ empty_granted (emptied_slots s from k) slot (omega arith) in
    let one_more : k + 1 ≡ emptied_count s from (slot + 1) = omega arith in (
      c.empty.ensures.after ∙ ap (λ t. after_empty t slot) c.loop-slot.invariant.0 ∙ emptied_step s from slot (omega arith) (omega arith),
      subst (λ (j : ℕ). KeptBeside d c.args.device.now (range_with_len from j) c.empty.new.self) one_more
          (kept_one_more d c.args.device.now c.loop-slot.device c.empty.new.self from k slot c.empty.result c.loop-slot.invariant.1 (omega arith) granted c.empty.ensures.beside c.empty.ensures.same_ways),
    )
