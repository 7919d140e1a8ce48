use Rattle.std.proofs.Common.{ℕ, ◌+◌, ◌-◌, ◌%◌, ◌^◌, ◌∙◌, ap₂, arith}
use Rattle.rows.specs.Widths.{places_of}
use Rattle.rows.proofs.Widths.{places_most}
use Rattle.run_table.proofs.Steps.{wrapped}
use Rattle.run_table.proofs.circle_steps.number_before.Goals as goal

pub returns : goal.returns
returns c =
    let n = places_of c.args.width in
    let h = places_most c.args.width in
    let x = c.args.number in
    record { value = ap₂ (λ (k m : ℕ). (x + (k - 1)) % 2 ^ 64 % m) c.limit.ensures.value c.limit-2.ensures.value ∙ wrapped n (x + (2 ^ n - 1)) (omega arith) }
