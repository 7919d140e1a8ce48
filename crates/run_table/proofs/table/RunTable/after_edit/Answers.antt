use Rattle.std.proofs.Common.{◌≡◌, ℕ, ◌<◌, ◌≤◌, true, [], length, refl, sym, ap, ◌∙◌, inr, arith}
use Rattle.std.proofs.lemmas.Bool.{both_ways, eqb-true, eqb-false}
use Rattle.std.proofs.lemmas.List.{nil_from_length}
use Rattle.rows.specs.Widths.{places_of}
use Rattle.rows.proofs.Widths.{places_most}
use Rattle.rows.specs.Ranges.{ranges_of}
use Rattle.rows.specs.Edits.{adding, edit_in_width}
use Rattle.run_table.specs.NewRuns.{new_runs}
use Rattle.run_table.proofs.EditAnswers.{left_counted, answered_whole, answered_runs, answered_many}
use Rattle.run_table.proofs.table.RunTable.after_edit.Goals as goal
use Rattle.run_table.proofs.table.RunTable.after_edit.Goals.{else-is_empty-via-then-is_empty+else-adds, else-is_empty-via-else-is_empty}

most : (n : ℕ) → n ≤ 32 → n ≤ 64
most n h = omega arith

pub returns-then-len-gt-MOST_RUNS : goal.returns-then-len-gt-MOST_RUNS
returns-then-len-gt-MOST_RUNS c =
    let n = places_of c.args.width in
    let e = c.args.edit in
    let R = c.runs.result.now in
    let is = ap length c.list_runs.ensures.runs in
    let many : 16 < length (new_runs n e R) = omega arith in
    record {
      answer_else_left_free = λ S q w. answered_many c.args.self.now n e S R (most n (places_most c.args.width)) w c.runs.ensures.value q many;
      outside = λ o. absurd (both_ways (edit_in_width n e) o (sym c.if-not-in_width.ensures.value));
      free_refusals = let k = left_counted n e R _ c.runs.ensures.value in inr (refl, sym c.if-not-in_width.ensures.value, omega arith);
    }

pub returns-then-adds : goal.returns-then-adds
returns-then-adds c =
    let n = places_of c.args.width in
    let e = c.args.edit in
    let R = c.runs.result.now in
    let none = nil_from_length (new_runs n e R) (sym (ap length c.list_runs.ensures.runs) ∙ eqb-true _ 0 (sym (c.if-is_empty.ensures))) in
    record {
      answer_else_left_free = λ S q w. answered_whole c.args.self.now n e S R (most n (places_most c.args.width)) w c.runs.ensures.value q none (sym c.if-adds.ensures.value) c.whole.result c.whole.ensures.runs;
      outside = λ o. absurd (both_ways (edit_in_width n e) o (sym c.if-not-in_width.ensures.value));
      free_refusals = let k = left_counted n e R _ c.runs.ensures.value in let z = ap length none in (sym c.if-not-in_width.ensures.value, omega arith);
    }

pub returns : goal.returns
returns c =
    let n = places_of c.args.width in
    let e = c.args.edit in
    let R = c.runs.result.now in
    let some : new_runs n e R ≡ [] → adding e ≡ true → ⊥ = λ none a. elim c.else-is_empty.branch [
      | else-is_empty-via-then-is_empty+else-adds w ↦ both_ways (adding e) (sym w.adds.ensures.value ∙ w.if-adds.false) a
      | else-is_empty-via-else-is_empty w ↦ eqb-false _ 0 (sym (w.if-is_empty.ensures)) (ap length (c.list_runs.ensures.runs ∙ none))
    ] in
    let held = c.holding.ensures.runs ∙ ap ranges_of (c.as_slice.ensures.value ∙ c.list_runs.ensures.runs) in
    record {
      answer_else_left_free = λ S q w. answered_runs c.args.self.now n e S R (most n (places_most c.args.width)) w c.runs.ensures.value q some c.holding.result held;
      outside = λ o. absurd (both_ways (edit_in_width n e) o (sym c.if-not-in_width.ensures.value));
      free_refusals = let k = left_counted n e R _ c.runs.ensures.value in let h = ap length c.list_runs.ensures.runs in (sym c.if-not-in_width.ensures.value, omega arith);
    }
