use Rattle.std.proofs.Common.{◌≡◌, ◌+◌, ◌^◌, ◌<◌, ◌≤◌, take, cond, ◌++◌, map, length, drop, Ok, Err, sym, ap, ◌∙◌, subst, ap₂, arith}
use Rattle.std.specs.Prelude.{nat_le}
use Rattle.std.proofs.lemmas.List.{length-map}
use Rattle.covers.specs.Rivals.{in_range, TakesPrecisely, Shortest}
use Rattle.covers.specs.Rules.{most_rows, rows_of_range}
use Rattle.covers.proofs.RangeLists.{range_exact, range_shortest, range_long, range_few}
use Rattle.rows.specs.declared.refusal.Refusal.TheVariants.{NumberOutsideWidth, MemoryTooShort}
use Rattle.rows.specs.Memory.{words_of}
use Rattle.rows.specs.Widths.{places_of}
use Rattle.rows.proofs.Widths.{places_some, places_most}
use Rattle.ranges.specs.RangeRows.{rows_in}
use Rattle.ranges.proofs.Handing.{handed, handed_answer}
use Rattle.ranges.proofs.RunLists.{ends_fit, ends_granted, first_rows, range_fits, range_made, rows_read, words_clean, words_within}
use Rattle.ranges.specs.FromZero.{rows_below}
use Rattle.ranges.proofs.FromZero.{zero_words, zero_answer}
use Rattle.std.specs.List.{AllByRecursion}
use lib.Bits.{bit_and}
use Rattle.ranges.proofs.range.rows_of_range.Goals as goal

pub write_rows-requires : goal.write_rows-requires
write_rows-requires c =
    let fits = range_fits c.in_ok-ends.ensures.made (places_some c.args.width) (places_most c.args.width) in
    let none = ap length c.new-rows.ensures in
    record { room = omega arith }

pub returns : goal.returns
returns c =
    let w = c.args.width in
    let n = places_of w in
    let f = c.args.range.first in
    let l = c.args.range.last in
    let made = c.in_ok-ends.ensures.made in
    let ends = ends_fit made in
    let rows = rows_of_range n f l in
    let long = length-map rows words_of in
    let all : c.deref.result.now ≡ map words_of rows = c.deref.ensures.0 ∙ c.write_rows.ensures.rows ∙ ap₂ (λ x y. x ++ y) c.new-rows.ensures (range_made made) in
    let over = c.hand_over.ensures in
    let granted = handed c.deref.result.now c.args.memory.now c.hand_over.new.memory (map words_of rows) c.hand_over.result over.answer over.copied all in
    let read : c.hand_over.new.memory ≡ map words_of rows ++ drop (length (map words_of rows)) c.args.memory.now → rows_in n (length (map words_of rows)) c.hand_over.new.memory ≡ rows = λ at.
    ap (rows_in n (length (map words_of rows))) at ∙ rows_read n rows (drop (length (map words_of rows)) c.args.memory.now) (length (map words_of rows)) (range_long n f l) long in
    let answer =
    handed_answer c.deref.result.now c.args.memory.now c.hand_over.new.memory (map words_of rows) c.hand_over.result over.answer over.copied all ∙
    ap (λ k. cond (nat_le k (length c.args.memory.now)) (Ok k) (Err MemoryTooShort)) long ∙
    ap (λ b. cond b (cond (nat_le (length rows) (length c.args.memory.now)) (Ok (length rows)) (Err MemoryTooShort)) (Err NumberOutsideWidth)) (sym (ends_granted made)) in
    let first : c.hand_over.new.memory ≡ map words_of rows ++ drop (length (map words_of rows)) c.args.memory.now → take (length (map words_of rows)) c.hand_over.new.memory ≡ map words_of rows = λ at.
    ap (take (length (map words_of rows))) at ∙ first_rows rows (drop (length (map words_of rows)) c.args.memory.now) (length (map words_of rows)) long in
    record {
      answer = answer;
      written = granted (λ k. c.hand_over.new.memory ≡ map words_of rows ++ drop k c.args.memory.now) (λ at. at);
      untouched_when_refused = over.untouched_when_refused;
      by_the_rules = granted (λ k. rows_in n k c.hand_over.new.memory ≡ rows) read;
      of_width = granted (λ k. AllByRecursion (λ w. w.care < 2 ^ n) (take k c.hand_over.new.memory)) (λ at. subst (AllByRecursion (λ w. w.care < 2 ^ n)) (sym (first at)) (words_within n rows (range_long n f l)));
      no_value_under_dashes = granted (λ k. AllByRecursion (λ w. bit_and w.value w.care ≡ w.value) (take k c.hand_over.new.memory)) (λ at. subst (AllByRecursion (λ w. bit_and w.value w.care ≡ w.value)) (sym (first at)) (words_clean n rows (range_long n f l)));
      rows_from_zero = λ z h. granted (λ k. take k c.hand_over.new.memory ≡ rows_below n (l + 1)) (λ at. first at ∙ zero_words n f l z h);
      count_from_zero = λ z h. answer ∙ zero_answer n f l (length c.args.memory.now) z h;
      few = granted (λ k. k ≤ most_rows n) (λ at. rw long (range_few n f l (places_some w)));
      exact = granted (λ k. TakesPrecisely n (rows_in n k c.hand_over.new.memory) (in_range f l)) (λ at. subst (λ r. TakesPrecisely n r (in_range f l)) (sym (read at)) (range_exact n f l ends.0 ends.1));
      shortest = granted (λ k. Shortest n (rows_in n k c.hand_over.new.memory)) (λ at. subst (Shortest n) (sym (read at)) (range_shortest n f l ends.0 ends.1));
    }
