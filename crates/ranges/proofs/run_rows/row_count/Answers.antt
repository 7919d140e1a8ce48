use Rattle.std.proofs.Common.{◌≡◌, ◌-◌, ◌^◌, List, length, min, get_or, take, ap, ◌∙◌, arith}
use Rattle.std.proofs.lemmas.List.{length-append, length-map, take_all}
use Rattle.rows.specs.declared.range.Range.{Range}
use Rattle.rows.specs.Ranges.{ranges_of}
use Rattle.rows.specs.Widths.{places_of}
use Rattle.rows.proofs.Ranges.{no_range}
use Rattle.rows.proofs.Widths.{places_some, places_most}
use Rattle.ranges.specs.RangesWithin.{rows_in_width, rows_of_ranges_within}
use Rattle.ranges.proofs.RowsWithin.{in_width_few, runs_few, set_rows_within, within_few, within_more}
use Rattle.ranges.proofs.run_rows.row_count.Goals as goal

pub write_rows_of_run-requires : goal.write_rows_of_run-requires
write_rows_of_run-requires c =
    let w = c.args.width in
    let r = get_or c.args.runs.now c.loop-run.run-index no_range in
    let k = in_width_few (places_of w) (r.first, r.last) (places_some w) (places_most w) in
    let e = c.loop-run.invariant.1 in
    record { room = omega arith }

pub loop-run-preserved : goal.loop-run-preserved
loop-run-preserved c =
    let n = places_of c.args.width in
    let R = c.args.runs.now in
    let i = c.loop-run.run-index in
    let r = get_or R i no_range in
    let e = c.write_rows_of_run.ensures.count in
    let so_far = c.loop-run.invariant.0 in
    let more = ap length (within_more n R i c.loop-run-test.true) ∙ length-append (rows_of_ranges_within n (ranges_of (take i R))) (rows_in_width n (r.first, r.last)) in
    let next = c.saturating_add-count.ensures in
    (omega arith, c.write_rows_of_run.auto.memory ∙ c.loop-run.invariant.1)

pub returns : goal.returns
returns c =
    let w = c.args.width in
    let n = places_of w in
    let R = c.args.runs.now in
    let rows = rows_of_ranges_within n (ranges_of R) in
    let all = c.loop-run.invariant.0 ∙ ap (λ (k : List Range). min (length (rows_of_ranges_within n (ranges_of k))) (2 ^ 64 - 1)) (take_all c.loop-run.run-index R c.loop-run-test.false) in
    let few = within_few n (ranges_of R) (places_some w) (places_most w) in
    let many : length (ranges_of R) ≡ length R = length-map R (λ r. (r.first, r.last)) in
    record {
      value = λ h. omega arith;
      at_any_length = all;
      of_set = λ S of.
          let its = ap length (set_rows_within n S (ranges_of R) of) in
          let most = ap length of in
          let set = runs_few n S (places_most w) in
          omega arith;
      high_bound = omega arith;
      few = λ h. omega arith;
    }
