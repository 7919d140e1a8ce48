use Rattle.std.proofs.Common.{◌≡◌, None, rules}
use Rattle.lines.proofs.Pairs.{some_space, parted}
use Rattle.lines.proofs.number.two_numbers.Goals as goal

pub returns-in_err-space-clause-accepted : goal.returns-in_err-space-clause-accepted
returns-in_err-space-clause-accepted c = λ x y w.
    let none : c.first_space.result ≡ None = search rules in
    absurd (some_space c.args.text.now x y w (rw none at c.first_space.ensures.before))

pub returns-in_err-first-clause-accepted : goal.returns-in_err-first-clause-accepted
returns-in_err-first-clause-accepted c = λ x y w.
    let p = parted c.args.text.now c.first_space.result c.in_ok-space.space x y (search rules) c.first_space.ensures.before c.first_space.ensures.found w in
    let q = c.in_err-first.ensures.accepted x p.0 in
    search rules

pub returns-in_err-second-clause-accepted : goal.returns-in_err-second-clause-accepted
returns-in_err-second-clause-accepted c = λ x y w.
    let p = parted c.args.text.now c.first_space.result c.in_ok-space.space x y (search rules) c.first_space.ensures.before c.first_space.ensures.found w in
    let q = c.in_err-second.ensures.accepted y p.1 in
    search rules

pub returns-clause-accepted : goal.returns-clause-accepted
returns-clause-accepted c = λ x y w.
    let p = parted c.args.text.now c.first_space.result c.in_ok-space.space x y (search rules) c.first_space.ensures.before c.first_space.ensures.found w in
    let a = c.in_ok-first.ensures.accepted x p.0 in
    let b = c.in_ok-second.ensures.accepted y p.1 in
    search rules
