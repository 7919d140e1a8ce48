use Rattle.std.proofs.Common.{ℕ, ◌+◌, min, Bool, cond, drop, sym, ap, ◌∙◌, ap₂}
use Rattle.std.proofs.lemmas.List.{at_drop_more, at_drop_all}
use Rattle.circle.specs.Runs.{ends}
use Rattle.rows.specs.Widths.{places_of}
use Rattle.run_table.specs.NewRuns.{lasts_of, least_of, set_after, steps, steps_to_end}
use Rattle.rows.proofs.Ranges.{no_range}
use Rattle.run_table.proofs.edited_set.EditedSet.steps_to_end.Goals as goal

pub loop-run-init : goal.loop-run-init
unfolding steps_to_end
loop-run-init c =
    let R = c.args.self.runs.now in
    let n = places_of c.args.self.width in
    let p : ℕ → Bool = ends n (set_after R c.args.self.edit) in
    let d : ℕ → ℕ = steps n c.args.from in
    ap (λ (m : ℕ). least_of p d m (lasts_of R))
    (c.fewer_steps-fewest.ensures.value ∙ ap₂ (λ (l x : ℕ). cond (p x) (min l (d x)) l) c.limit.ensures.value c.new_last-last.ensures.value)

pub loop-run-preserved : goal.loop-run-preserved
loop-run-preserved c =
    let R = c.args.self.runs.now in
    let n = places_of c.args.self.width in
    let p : ℕ → Bool = ends n (set_after R c.args.self.edit) in
    let d : ℕ → ℕ = steps n c.args.from in
    let i = c.loop-run.run-index in
    ap (λ (m : ℕ). least_of p d m (lasts_of (drop (i + 1) R))) c.fewer_steps-fewest-in-loop-run.ensures.value ∙
    sym (at_drop_more (λ l. least_of p d c.loop-run.fewest (lasts_of l)) R i no_range c.loop-run-test.true) ∙ c.loop-run.invariant

pub returns : goal.returns
returns c =
    let R = c.args.self.runs.now in
    let n = places_of c.args.self.width in
    let p : ℕ → Bool = ends n (set_after R c.args.self.edit) in
    let d : ℕ → ℕ = steps n c.args.from in
    record { value = sym (at_drop_all (λ l. least_of p d c.loop-run.fewest (lasts_of l)) R c.loop-run.run-index c.loop-run-test.false) ∙ c.loop-run.invariant }
