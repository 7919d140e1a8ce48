use Rattle.std.proofs.Common.{◌++◌, length, sym, ap, ◌∙◌, arith}
use Rattle.ranges.proofs.BesideLists.{range_one, range_beside}
use Rattle.ranges.proofs.witness.write_numbers.Goals as goal

pub push-requires : goal.push-requires
push-requires c =
    let one = range_one c.args.ends.places c.args.ends.first c.args.ends.last c.limit-limit.result c.limit-limit.ensures.value c.if-after-ends.true in
    let k = ap length one in
    let room = c.requires.room in
    omega arith

pub returns-then-after-ends : goal.returns-then-after-ends
returns-then-after-ends c =
    let one = range_one c.args.ends.places c.args.ends.first c.args.ends.last c.limit-limit.result c.limit-limit.ensures.value c.if-after-ends.true in
    record { numbers = c.push.ensures.items ∙ ap (λ l. c.args.numbers.now.items ++ l) (sym one) }

pub write-requires : goal.write-requires
write-requires c =
    let all = range_beside c.args.ends.places c.args.ends.first c.args.ends.last c.limit-limit.result c.limit-limit.ensures.value c.if-after-ends.false in
    let k = ap length all in
    let room = c.requires.room in
    omega arith

pub returns-else-after-ends : goal.returns-else-after-ends
returns-else-after-ends c =
    let all = range_beside c.args.ends.places c.args.ends.first c.args.ends.last c.limit-limit.result c.limit-limit.ensures.value c.if-after-ends.false in
    record { numbers = c.write.ensures.numbers ∙ ap (λ l. c.args.numbers.now.items ++ l) (sym all) }
