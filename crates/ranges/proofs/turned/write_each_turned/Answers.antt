use Rattle.std.proofs.Common.{◌-◌, ◌%◌, refl, sym, ap, ◌∙◌, pow_pos, length-append, arith}
use Rattle.std.proofs.lemmas.Nat.{one_shl}
use Rattle.covers.specs.WitnessNumbers.{each_turned}
use Rattle.ranges.proofs.FirstOne.{top_place}
use Rattle.ranges.proofs.TurnedSteps.{marks, all_turned, first, one_left, step}
use Rattle.ranges.proofs.turned.write_each_turned.Goals as goal
use Rattle.ranges.proofs.turned.write_each_turned.Goals.{then-one, else-one}

pub loop-left-init : goal.loop-left-init
loop-left-init c =
    let top = one_shl c.args.places 64 c.requires.places_within in
    record {
      places = c.args.places;
      within = c.requires.places_within;
      behind = elim c.if-one.branch [
        | then-one w ↦ w.left-is ∙ ap (λ k. c.args.number % k) top ∙ ap (λ t. marks t c.args.places c.args.number) (sym w.if-one.true)
        | else-one w ↦ w.left-is ∙ ap (λ k. k - 1 - c.args.number % k) top ∙ ap (λ t. marks t c.args.places c.args.number) (sym w.if-one.false)
      ];
      list = refl;
    }

pub push-requires : goal.push-requires
push-requires c =
    let more = one_left c.loop-left.invariant c.loop-left-test.true in
    let room = c.requires.room in
    let long = length-append c.args.numbers.now.items (each_turned c.args.one c.args.places c.args.number) in
    omega arith

pub overflow_sub-left-in-loop-left : goal.overflow_sub-left-in-loop-left
overflow_sub-left-in-loop-left c = let f = first c.loop-left.invariant c.loop-left-test.true in let is = f.is in let from = f.from in omega arith

pub loop-left-smaller : goal.loop-left-smaller
loop-left-smaller c =
    let f = first c.loop-left.invariant c.loop-left-test.true in
    let is = f.is in
    let from = f.from in
    let one = pow_pos (top_place c.loop-left.left) in
    omega arith

pub loop-left-preserved : goal.loop-left-preserved
loop-left-preserved c = step c.loop-left.invariant c.loop-left-test.true c.with_digit_turned.ensures.value c.push.ensures.items

pub returns : goal.returns
returns c = let test = c.loop-left-test.false in record { numbers = all_turned c.loop-left.invariant (omega arith) }
