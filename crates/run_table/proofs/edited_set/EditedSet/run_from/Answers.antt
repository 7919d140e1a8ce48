use Rattle.std.proofs.Common.{◌≡◌, ℕ, ◌+◌, ◌%◌, ◌^◌, ap, ◌∙◌, ap₂, arith}
use Rattle.rows.specs.Widths.{places_of}
use Rattle.rows.proofs.Widths.{places_most}
use Rattle.rows.specs.declared.range.Range.{Range}
use Rattle.run_table.specs.NewRuns.{new_lasts, set_after, steps_to_end}
use Rattle.run_table.proofs.Steps.{wrapped}
use Rattle.run_table.proofs.edited_set.EditedSet.run_from.Goals as goal

ends_at : (g : ℕ) {x y : ℕ} → x ≡ y → ◌≡◌ {A = Range} (record { first = g; last = x }) (record { first = g; last = y })
ends_at g e = ap (λ (k : ℕ). record { first = g; last = k }) e

pub returns : goal.returns
returns c =
    let n = places_of c.args.self.width in
    let h = places_most c.args.self.width in
    let R = c.args.self.runs.now in
    let e = c.args.self.edit in
    let g = c.args.first in
    record {
      value = ends_at g
          (ap₂ (λ (s m : ℕ). (g + s) % 2 ^ 64 % m) c.steps_to_end-steps.ensures.value c.limit.ensures.value ∙
          wrapped n (g + steps_to_end n (set_after R e) (new_lasts n e R) g) (omega arith));
    }
