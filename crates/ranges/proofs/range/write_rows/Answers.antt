use Rattle.std.proofs.Common.{◌++◌, length, sym, ap, ◌∙◌, arith}
use Rattle.ranges.proofs.RunLists.{range_alone, range_whole}
use Rattle.ranges.proofs.range.write_rows.Goals as goal

pub push-requires : goal.push-requires
push-requires c =
    let k = ap length (range_whole c.args.ends (sym c.is_whole.ensures.value ∙ c.if-is_whole.true)) in
    let room = c.requires.room in
    omega arith

pub returns-then-is_whole : goal.returns-then-is_whole
returns-then-is_whole c =
    record { rows = c.push.ensures.items ∙ ap (λ l. c.args.rows.now.items ++ l) (sym (range_whole c.args.ends (sym c.is_whole.ensures.value ∙ c.if-is_whole.true))) }

pub write-requires : goal.write-requires
write-requires c =
    let k = ap length (range_alone c.args.ends (sym c.is_whole.ensures.value ∙ c.if-is_whole.false) c.of-stretch.ensures.alone) in
    let room = c.requires.room in
    record { room = omega arith }

pub returns : goal.returns
returns c =
    record { rows = c.write.ensures.rows ∙ ap (λ l. c.args.rows.now.items ++ l) (range_alone c.args.ends (sym c.is_whole.ensures.value ∙ c.if-is_whole.false) c.of-stretch.ensures.alone) }
