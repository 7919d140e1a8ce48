use Rattle.std.proofs.Common.{◌≡◌, ℕ, ◌+◌, ◌-◌, ◌%◌, ◌^◌, ap, ◌∙◌, arith}
use Rattle.rows.specs.Widths.{places_of}
use Rattle.rows.proofs.Widths.{places_most}
use Rattle.run_table.proofs.Steps.{wrapped}
use Rattle.run_table.proofs.circle_steps.steps_between.Goals as goal

pub returns : goal.returns
returns c =
    let n = places_of c.args.width in
    let h = places_most c.args.width in
    let x = c.args.from in
    let y = c.args.to in
    let e : y + (2 ^ 64 - x) ≡ y + 2 ^ 64 - x = omega arith in
    record { value = ap (λ (m : ℕ). (y + (2 ^ 64 - x)) % 2 ^ 64 % m) c.limit.ensures.value ∙ wrapped n (y + (2 ^ 64 - x)) (omega arith) ∙ ap (λ (k : ℕ). k % 2 ^ n) e }
