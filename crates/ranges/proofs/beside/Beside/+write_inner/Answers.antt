use Rattle.std.proofs.Common.{length, sym, ap, ◌∙◌, arith, rules}
use Rattle.ranges.proofs.BesideLists.{inner_at_one}
use Rattle.ranges.proofs.beside.Beside.+write_inner.Goals as goal

pub write_inner-requires : goal.write_inner-requires
write_inner-requires t c =
    let k = ap length (inner_at_one c.args.self.now.places c.args.self.now.before c.args.self.now.after (sym c.is_under.ensures.value ∙ c.if-not-is_under.false)) in
    let room = c.requires.room in
    let more = c.push.ensures.len in
    (search rules, omega arith)
