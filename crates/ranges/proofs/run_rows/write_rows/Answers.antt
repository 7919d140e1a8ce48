use Rattle.std.proofs.Common.{◌≡◌, ℕ, List, ◌++◌, map, length, drop, Ok, sym, refl, ap, ◌∙◌, subst, arith}
use Rattle.std.proofs.lemmas.Bool.{le-leb, lt-leb, cond-true, cond-false, both_ways}
use Rattle.covers.specs.Symbols.{Symbols}
use Rattle.covers.specs.Rivals.{NumberSet, TakesPrecisely}
use Rattle.circle.specs.Runs.{rows_of_set}
use Rattle.circle.proofs.Rows.{rows as set_rows}
use Rattle.rows.specs.Memory.{words_of}
use Rattle.rows.specs.Ranges.{ranges_of}
use Rattle.rows.specs.Widths.{places_of}
use Rattle.ranges.specs.RangeRows.{rows_in}
use Rattle.ranges.specs.RangesWithin.{rows_of_ranges_within}
use Rattle.ranges.specs.SeveralRanges.{RunsOf}
use Rattle.ranges.proofs.RunLists.{rows_read}
use Rattle.ranges.proofs.RowsWithin.{set_rows_within, set_rows_long}
use Rattle.ranges.proofs.run_rows.write_rows.Goals as goal

pub write_rows_of-requires : goal.write_rows_of-requires
write_rows_of-requires c =
    let k = c.row_count-count.ensures.at_any_length in
    record { room = omega arith }

pub returns-then-count-room : goal.returns-then-count-room
returns-then-count-room c =
    let rows = rows_of_ranges_within (places_of c.args.width) (ranges_of c.args.runs.now) in
    let e = c.row_count-count.ensures.at_any_length in
    record {
      answer = sym (cond-false _ _ _ (lt-leb (length rows) (length c.args.memory.now) (omega arith)));
      written = tt;
      by_the_rules = λ S q. tt;
      exact = λ S q. tt;
      untouched_when_refused = λ _. refl;
    }

pub returns : goal.returns
returns c =
    let n = places_of c.args.width in
    let R = c.args.runs.now in
    let m = c.args.memory.now in
    let k = c.row_count-count.result in
    let rows = rows_of_ranges_within n (ranges_of R) in
    let e : k ≡ length rows = omega arith in
    let all : c.write_rows_of.new.memory ≡ map words_of rows ++ drop k m = c.write_rows_of.ensures.rows ∙ ap (λ (j : ℕ). map words_of rows ++ drop j m) (sym e) in
    let back : (S : NumberSet) → RunsOf n S R → rows_in n k c.write_rows_of.new.memory ≡ rows_of_set n S =
    λ S q. ap (rows_in n k) (all ∙ ap (λ (l : List Symbols). map words_of l ++ drop k m) (set_rows_within n S (ranges_of R) q)) ∙
    rows_read n (rows_of_set n S) (drop k m) k (set_rows_long n S) (c.row_count-count.ensures.of_set S q) in
    record {
      answer = ap Ok e ∙ sym (cond-true _ _ _ (le-leb (length rows) (length m) (omega arith)));
      written = all;
      by_the_rules = back;
      exact = λ S q. subst (λ r. TakesPrecisely n r S) (sym (back S q)) (set_rows.exact n S);
      untouched_when_refused = λ z. absurd (both_ways _ refl z);
    }
