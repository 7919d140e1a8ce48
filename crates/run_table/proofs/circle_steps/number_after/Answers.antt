use Rattle.std.proofs.Common.{ℕ, ◌+◌, ◌%◌, ◌^◌, ap, ◌∙◌, arith}
use Rattle.rows.specs.Widths.{places_of}
use Rattle.rows.proofs.Widths.{places_most}
use Rattle.run_table.proofs.Steps.{wrapped}
use Rattle.run_table.proofs.circle_steps.number_after.Goals as goal

pub returns : goal.returns
returns c =
    let n = places_of c.args.width in
    let h = places_most c.args.width in
    let x = c.args.number + 1 in
    record { value = ap (λ (m : ℕ). x % 2 ^ 64 % m) c.limit.ensures.value ∙ wrapped n x (omega arith) }
