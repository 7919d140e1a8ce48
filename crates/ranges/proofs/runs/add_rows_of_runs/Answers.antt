use Rattle.std.proofs.Common.{◌≡◌, ℕ, Ok, Err, List, ◌++◌, length, map, take, refl, sym, ap, ◌∙◌, ap₂, arith}
use Rattle.std.proofs.Math.Seq.{take-append_seam}
use Rattle.std.proofs.lemmas.Bool.{false≢true}
use Rattle.std.proofs.lemmas.List.{append-nil, take_all}
use Rattle.rows.specs.declared.row_words.RowWords.{RowWords}
use Rattle.arrayvec.specs.ArrayVec.{ArrayVec}
use Rattle.rows.specs.Memory.{words_of}
use Rattle.rows.specs.Ranges.{ranges_of}
use Rattle.rows.specs.Widths.{places_of}
use Rattle.rows.proofs.Widths.{places_some, places_most}
use Rattle.ranges.specs.SeveralRanges.{rows_of_ranges}
use Rattle.ranges.proofs.SeveralLists.{more_counted, more_rows, more_within_all, its_runs_within, one_outside, added_clean, added_within, read_added, read_added_exact, set_added}
use Rattle.ranges.proofs.RunLists.{range_fits, range_made}
use Rattle.ranges.proofs.runs.add_rows_of_runs.Goals as goal
use Rattle.ranges.proofs.runs.add_rows_of_runs.Goals.{After-from_residual, After-loop-run}

abbrev items : ArrayVec RowWords → List RowWords
items list = list.items

pub returns-then-not-all_within-clause-of_set : goal.returns-then-not-all_within-clause-of_set
returns-then-not-all_within-clause-of_set c = λ S of. absurd (false≢true (c.if-not-all_within.ensures.value ∙ its_runs_within (places_of c.args.width) S (ranges_of c.args.runs.now) of))

pub loop-run-init : goal.loop-run-init
loop-run-init c = (sym (append-nil c.args.rows.now.items), omega arith)

-- a run of the width is not refused
within : (c : After-from_residual) → ⊥
within c =
    let n = places_of c.args.width in
    let R = c.args.runs.now in
    false≢true (sym (one_outside n R c.loop-run.run-index c.loop-run-test.true c.in_err-ends.ensures.made.0) ∙ sym c.if-not-all_within.ensures.value)

pub returns-in_err-ends-clause-added : goal.returns-in_err-ends-clause-added
returns-in_err-ends-clause-added c = λ all. absurd (within c)

pub returns-in_err-ends-clause-of_set : goal.returns-in_err-ends-clause-of_set
returns-in_err-ends-clause-of_set c = λ S of. absurd (within c)

pub returns-in_err-ends-clause-untouched_when_refused : goal.returns-in_err-ends-clause-untouched_when_refused
returns-in_err-ends-clause-untouched_when_refused c = λ refused. absurd (within c)

pub write_rows-requires : goal.write_rows-requires
write_rows-requires c =
    let fits = range_fits c.in_ok-ends.ensures.made (places_some c.args.width) (places_most c.args.width) in
    let none = ap length c.new-more.ensures in
    record { room = omega arith }

pub returns-in-Err-clause-added : goal.returns-in-Err-clause-added
returns-in-Err-clause-added c = λ all.
    let n = places_of c.args.width in
    let R = c.args.runs.now in
    let next = c.deref.ensures.0 ∙ c.write_rows.ensures.rows ∙ ap₂ (λ x y. x ++ y) c.new-more.ensures (range_made c.in_ok-ends.ensures.made) in
    let over = c.in-Err.ensures.refusal in
    let many = over.1 in
    let full = more_within_all n R c.loop-run.run-index c.loop-run-test.true c.args.rows.now.items c.loop-run.rows.items c.deref.result.now c.loop-run.invariant.0 next in
    let most = c.saturating_add-most.ensures in
    let before = c.len-before.ensures in
    (over.0, omega arith)

pub returns-in-Err-clause-of_set : goal.returns-in-Err-clause-of_set
returns-in-Err-clause-of_set c = λ S of.
    set_added (places_of c.args.width) S c.args.runs.now of c.args.room c.args.rows.now c.truncate.new.self (Err c.in-Err.refusal) (returns-in-Err-clause-added c)

pub returns-in-Err-clause-untouched_when_refused : goal.returns-in-Err-clause-untouched_when_refused
returns-in-Err-clause-untouched_when_refused c = λ refused.
    let held = c.args.rows.now.items in
    let stayed = ap items (c.in-Err.ensures.untouched_when_refused refl) in
    ap (λ (l : List RowWords). record { items = l })
    (c.truncate.ensures.items ∙ ap₂ (λ (k : ℕ) (l : List RowWords). take k l) c.len-before.ensures.value (stayed ∙ c.loop-run.invariant.0) ∙ take-append_seam held _)

pub loop-run-preserved : goal.loop-run-preserved
loop-run-preserved c =
    let n = places_of c.args.width in
    let R = c.args.runs.now in
    let i = c.loop-run.run-index in
    let held = c.args.rows.now.items in
    let next = c.deref.ensures.0 ∙ c.write_rows.ensures.rows ∙ ap₂ (λ x y. x ++ y) c.new-more.ensures (range_made c.in_ok-ends.ensures.made) in
    let rows = more_rows n R i c.loop-run-test.true held c.loop-run.rows.items c.deref.result.now c.loop-run.invariant.0 next in
    let count = more_counted n R i c.loop-run-test.true held c.loop-run.rows.items c.deref.result.now c.loop-run.invariant.0 next in
    let most = c.saturating_add-most.ensures in
    let before = c.len-before.ensures in
    let grown = c.in_default.ensures.appended in
    let long = ap length grown in
    let few = c.in_default.ensures.few in
    (grown ∙ rows, omega arith)

pub returns-clause-added : goal.returns-clause-added
returns-clause-added c = λ all.
    let n = places_of c.args.width in
    let R = c.args.runs.now in
    let all_of = take_all c.loop-run.run-index R c.loop-run-test.false in
    let whole = ap (λ k. length (rows_of_ranges n (ranges_of k))) all_of in
    let few = c.loop-run.invariant.1 in
    (c.loop-run.invariant.0 ∙ ap (λ k. c.args.rows.now.items ++ map words_of (rows_of_ranges n (ranges_of k))) all_of, omega arith)

pub returns-clause-of_set : goal.returns-clause-of_set
returns-clause-of_set c = λ S of. set_added (places_of c.args.width) S c.args.runs.now of c.args.room c.args.rows.now c.loop-run.rows (Ok tt) (returns-clause-added c)

-- after the last run
all_rows : (c : After-loop-run) → c.loop-run.rows.items ≡ c.args.rows.now.items ++ map words_of (rows_of_ranges (places_of c.args.width) (ranges_of c.args.runs.now))
all_rows c =
    let R = c.args.runs.now in
    c.loop-run.invariant.0 ∙ ap (λ k. c.args.rows.now.items ++ map words_of (rows_of_ranges (places_of c.args.width) (ranges_of k))) (take_all c.loop-run.run-index R c.loop-run-test.false)

pub returns-clause-by_the_rules : goal.returns-clause-by_the_rules
returns-clause-by_the_rules c = read_added (places_of c.args.width) c.args.runs.now c.args.rows.now.items c.loop-run.rows.items (all_rows c)

pub returns-clause-exact : goal.returns-clause-exact
returns-clause-exact c = read_added_exact (places_of c.args.width) c.args.runs.now c.args.rows.now.items c.loop-run.rows.items (all_rows c)

pub returns-clause-of_width : goal.returns-clause-of_width
returns-clause-of_width c = added_within (places_of c.args.width) c.args.runs.now c.args.rows.now.items c.loop-run.rows.items (all_rows c)

pub returns-clause-no_value_under_dashes : goal.returns-clause-no_value_under_dashes
returns-clause-no_value_under_dashes c = added_clean (places_of c.args.width) c.args.runs.now c.args.rows.now.items c.loop-run.rows.items (all_rows c)
