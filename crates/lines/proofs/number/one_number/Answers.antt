use Rattle.std.proofs.Common.{◌≡◌, None, rules, arith}
use Rattle.std.proofs.lemmas.Str.Parse.{digit_at}
use Rattle.lines.proofs.number.one_number.Goals as goal

pub returns-in_err-digit-clause-accepted : goal.returns-in_err-digit-clause-accepted
returns-in_err-digit-clause-accepted c = λ x w.
    let d = digit_at c.args.text.now c.loop-byte.byte-index w.digits.1 c.loop-byte-test.true in
    let none : c.to_digit.result ≡ None = search rules in
    let n = rw none at c.to_digit.ensures.cases in
    absurd (omega arith)
