use Rattle.std.proofs.Common.{◌≡◌, ℕ, Bool, true, false, Ok, Err, refl, ◌∙◌, sym, subst, arith}
use Rattle.std.proofs.lemmas.Result.{err_from_is_err_and}
use Rattle.rows.specs.Ranges.{ranges_of}
use Rattle.rows.specs.Widths.{places_of}
use Rattle.ranges.specs.SeveralRanges.{all_in_width, rows_of_ranges, RowsAdded, RowsMade}
use Rattle.ranges.proofs.SeveralLists.{made_alone, made_clean, made_within, read_exact, read_set, refused_alone, set_made}
use Rattle.ranges.proofs.runs.rows_of_runs.Goals as goal
use Rattle.ranges.proofs.runs.rows_of_runs.Goals.{After-from_residual, In_ok-add_rows_of_runs}

-- a refusal is that of the rows added
refused : (c : After-from_residual) → all_in_width (places_of c.args.width) (ranges_of c.args.runs.now) ≡ true →
    RowsMade (rows_of_ranges (places_of c.args.width) (ranges_of c.args.runs.now)) c.args.room c.from_residual.result
refused c all =
    let rows = rows_of_ranges (places_of c.args.width) (ranges_of c.args.runs.now) in
    let room = c.args.room in
    let old = c.new-rows.result in
    let new = c.add_rows_of_runs.new.rows in
    let p = err_from_is_err_and c.from_residual.result c.from_residual.ensures.1 in
    let was = c.in_err-add_rows_of_runs.was in
    let is : c.add_rows_of_runs.result ≡ Err p.0 = cc in
    subst (RowsMade rows room) (sym p.1) (refused_alone rows room old new c.new-rows.ensures p.0 (subst (RowsAdded rows room old new) is (c.add_rows_of_runs.ensures.added all)))

pub returns-in_err-add_rows_of_runs-clause-of_set : goal.returns-in_err-add_rows_of_runs-clause-of_set
returns-in_err-add_rows_of_runs-clause-of_set c = λ S of. set_made (places_of c.args.width) S c.args.runs.now of c.args.room c.from_residual.result (refused c)

-- what is granted is within the width, and the list is of the rows
within : (c : In_ok-add_rows_of_runs) → all_in_width (places_of c.args.width) (ranges_of c.args.runs.now) ≡ true
within c = by (all_in_width (places_of c.args.width) (ranges_of c.args.runs.now)) refl
  where
    by : (v : Bool) → all_in_width (places_of c.args.width) (ranges_of c.args.runs.now) ≡ v → all_in_width (places_of c.args.width) (ranges_of c.args.runs.now) ≡ true
    by true w = w
    by false w =
        let q = sym c.in_ok-add_rows_of_runs.was ∙ c.add_rows_of_runs.ensures.outside w in
        let z : ◌≡◌ {A = ℕ} 0 1 = cc in
        absurd (omega arith)

made : (c : In_ok-add_rows_of_runs) → RowsMade (rows_of_ranges (places_of c.args.width) (ranges_of c.args.runs.now)) c.args.room (Ok c.add_rows_of_runs.new.rows)
made c =
    let rows = rows_of_ranges (places_of c.args.width) (ranges_of c.args.runs.now) in
    let room = c.args.room in
    let old = c.new-rows.result in
    let new = c.add_rows_of_runs.new.rows in
    made_alone rows room old new c.new-rows.ensures (subst (RowsAdded rows room old new) c.in_ok-add_rows_of_runs.was (c.add_rows_of_runs.ensures.added (within c)))

pub returns-clause-of_set : goal.returns-clause-of_set
returns-clause-of_set c = λ S of. set_made (places_of c.args.width) S c.args.runs.now of c.args.room (Ok c.add_rows_of_runs.new.rows) (λ all. made c)

pub returns-clause-by_the_rules : goal.returns-clause-by_the_rules
returns-clause-by_the_rules c = λ S of. read_set (places_of c.args.width) c.args.runs.now c.add_rows_of_runs.new.rows.items (made c).0 S of

pub returns-clause-exact : goal.returns-clause-exact
returns-clause-exact c = λ S of. read_exact (places_of c.args.width) c.args.runs.now c.add_rows_of_runs.new.rows.items (made c).0 S of

pub returns-clause-of_width : goal.returns-clause-of_width
returns-clause-of_width c = made_within (places_of c.args.width) c.args.runs.now c.add_rows_of_runs.new.rows.items (made c).0

pub returns-clause-no_value_under_dashes : goal.returns-clause-no_value_under_dashes
returns-clause-no_value_under_dashes c = made_clean (places_of c.args.width) c.args.runs.now c.add_rows_of_runs.new.rows.items (made c).0
