use Rattle.std.proofs.Common.{ℕ, ltb, List, [], ◌∷◌, ◌++◌, length, get_or, take, filter, sym, ap, ◌∙◌, arith}
use Rattle.std.proofs.lemmas.Bool.{lt-ltb, le-ltb}
use Rattle.rows.specs.Widths.{places_of}
use Rattle.run_table.specs.NewRuns.{below_and_above, firsts_of, new_runs, runs_at}
use Rattle.arrayvec.specs.ArrayVec.{ArrayVec}
use Rattle.rows.specs.declared.range.Range.{Range}
use Rattle.rows.proofs.Ranges.{no_range}
use Rattle.run_table.proofs.Writing.{runs_at_more, runs_at_few, filter_takes, filter_leaves, front_few, all_firsts, so_far, so_far_takes, so_far_leaves, so_far_room}
use Rattle.run_table.proofs.edited_set.EditedSet.list_runs.Goals as goal
use Rattle.run_table.proofs.edited_set.EditedSet.list_runs.Goals.{then-run-new, else-run-new, then-new-run, else-new-run}

abbrev items : ArrayVec Range → List Range
items v = v.items

pub keep-requires : goal.keep-requires
keep-requires c =
    let n = places_of c.args.self.width in
    let R = c.args.self.runs.now in
    let x = c.new_first-new.result in
    let a = ap length c.loop-run.invariant in
    let b = runs_at_few n c.args.self.edit R (filter (λ f. ltb f x) (take c.loop-run.run-index (firsts_of R))) in
    let k = front_few (λ f. ltb f x) c.loop-run.run-index R in
    let h = c.requires.few in
    record { room = omega arith }

pub loop-run-preserved : goal.loop-run-preserved
loop-run-preserved c =
    let n = places_of c.args.self.width in
    let e = c.args.self.edit in
    let R = c.args.self.runs.now in
    let x = c.new_first-new.result in
    let L = c.loop-run in
    let i = L.run-index in
    let f = (get_or R i no_range).first in
    let l = filter (λ f. ltb f x) (take i (firsts_of R)) in
    elim c.if-run-new.branch [
      | then-run-new w ↦ ap items w.out-is ∙ runs_at_more n e R L.out.items _ l f L.invariant w.keep.ensures.runs ∙
          ap (runs_at n e R) (sym (filter_takes (λ f. ltb f x) R i c.loop-run-test.true (lt-ltb f x w.if-run-new.true)))
      | else-run-new w ↦ ap items w.out-is ∙ L.invariant ∙
          ap (runs_at n e R) (sym (filter_leaves (λ f. ltb f x) R i c.loop-run-test.true (le-ltb f x w.if-run-new.false)))
    ]

pub keep-requires-2 : goal.keep-requires-2
keep-requires-2 c =
    let n = places_of c.args.self.width in
    let R = c.args.self.runs.now in
    let x = c.new_first-new.result in
    let a = ap length c.loop-run.invariant in
    let b = runs_at_few n c.args.self.edit R (filter (λ f. ltb f x) (take c.loop-run.run-index (firsts_of R))) in
    let k = front_few (λ f. ltb f x) c.loop-run.run-index R in
    let h = c.requires.few in
    record { room = omega arith }

pub loop-run-2-init : goal.loop-run-2-init
loop-run-2-init c =
    let n = places_of c.args.self.width in
    let e = c.args.self.edit in
    let R = c.args.self.runs.now in
    let x = c.new_first-new.result in
    let L = c.loop-run in
    let l = filter (λ f. ltb f x) (take L.run-index (firsts_of R)) in
    runs_at_more n e R L.out.items _ l x L.invariant c.keep-2.ensures.runs ∙
    ap (λ (F : List ℕ). runs_at n e R (filter (λ f. ltb f x) F ++ x ∷ [])) (all_firsts R L.run-index c.loop-run-test.false)

pub keep-requires-then-new-run : goal.keep-requires-then-new-run
keep-requires-then-new-run c =
    let n = places_of c.args.self.width in
    let x = c.new_first-new.result in
    let R = c.args.self.runs.now in
    let L = c.loop-run-2 in
    let f = (get_or R L.run-index no_range).first in
    let a = ap length L.invariant in
    let b = runs_at_few n c.args.self.edit R (so_far x R L.run-index) in
    let k = so_far_room x R L.run-index c.loop-run-2-test.true (lt-ltb x f c.if-new-run.true) in
    let h = c.requires.few in
    record { room = omega arith }

pub loop-run-2-preserved : goal.loop-run-2-preserved
loop-run-2-preserved c =
    let n = places_of c.args.self.width in
    let e = c.args.self.edit in
    let R = c.args.self.runs.now in
    let x = c.new_first-new.result in
    let L = c.loop-run-2 in
    let i = L.run-index in
    let f = (get_or R i no_range).first in
    elim c.if-new-run.branch [
      | then-new-run w ↦ ap items w.out-is ∙ runs_at_more n e R L.out.items _ (so_far x R i) f L.invariant w.keep-then-new-run.ensures.runs ∙
          ap (runs_at n e R) (sym (so_far_takes x R i c.loop-run-2-test.true (lt-ltb x f w.if-new-run.true)))
      | else-new-run w ↦ ap items w.out-is ∙ L.invariant ∙
          ap (runs_at n e R) (sym (so_far_leaves x R i c.loop-run-2-test.true (le-ltb x f w.if-new-run.false)))
    ]

pub returns : goal.returns
unfolding new_runs
returns c =
    let n = places_of c.args.self.width in
    let e = c.args.self.edit in
    let R = c.args.self.runs.now in
    let x = c.new_first-new.result in
    let L = c.loop-run-2 in
    let all = ap (λ (F : List ℕ). filter (λ f. ltb f x) (firsts_of R) ++ x ∷ filter (λ f. ltb x f) F) (all_firsts R L.run-index c.loop-run-2-test.false) in
    let new = ap (λ (y : ℕ). below_and_above y (firsts_of R)) c.new_first-new.ensures.value in
    record { runs = L.invariant ∙ ap (runs_at n e R) (all ∙ new) }
