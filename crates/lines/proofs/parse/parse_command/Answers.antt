use Rattle.std.proofs.Common.{◌≡◌, get_or, sym, ◌∙◌, rules, arith}
use Rattle.lines.proofs.Meanings.{opened_line, means_add, means_drop}
use Rattle.lines.proofs.parse.parse_command.Goals as goal

pub returns-in-43-clause-accepted : goal.returns-in-43-clause-accepted
returns-in-43-clause-accepted c = λ d m.
    let space : get_or c.args.line.now 1 0 ≡ 32 = omega arith in
    let k = means_add c.args.line.now _ (opened_line c.args.line.now 43 32 (omega arith) (sym c.from.ensures ∙ c.in-43.is) space) d m in
    let q = c.one_range.ensures.accepted k.0 k.2 in
    rw k.1 (search rules)

pub returns-in-45-clause-accepted : goal.returns-in-45-clause-accepted
returns-in-45-clause-accepted c = λ d m.
    let space : get_or c.args.line.now 1 0 ≡ 32 = omega arith in
    let k = means_drop c.args.line.now _ (opened_line c.args.line.now 45 32 (omega arith) (sym c.from.ensures ∙ c.in-45.is) space) d m in
    let q = c.one_range-in-45.ensures.accepted k.0 k.2 in
    rw k.1 (search rules)
