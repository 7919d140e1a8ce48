use Rattle.std.proofs.Common.{◌≡◌, ℕ, ◌^◌, ◌<◌, true, cond, List, ◌++◌, length, take, drop, Ok, Err, refl, sym, ap, ◌∙◌, subst, ap₂, arith}
use Rattle.std.specs.Prelude.{nat_le}
use Rattle.std.specs.List.{AllByRecursion}
use Rattle.std.proofs.lemmas.List.{take_at}
use Rattle.covers.specs.Rivals.{in_range, Pairs, Parted, Witness}
use Rattle.covers.specs.Rules.{rows_of_range}
use Rattle.covers.specs.WitnessNumbers.{numbers_of_range}
use Rattle.covers.proofs.RangeLists.{range_few, most_few}
use Rattle.covers.proofs.WitnessCounts.{range_counted}
use Rattle.covers.proofs.WitnessSound.{numbers_witness}
use Rattle.rows.specs.declared.refusal.Refusal.TheVariants.{NumberOutsideWidth, MemoryTooShort}
use Rattle.rows.specs.Widths.{places_of}
use Rattle.rows.proofs.Widths.{places_some, places_most}
use Rattle.ranges.specs.declared.ends.Ends.{Ends}
use Rattle.ranges.specs.Building.{EndsOf}
use Rattle.ranges.proofs.Handing.{handed, handed_answer}
use Rattle.ranges.proofs.RunLists.{ends_fit, ends_granted}
use Rattle.ranges.proofs.witness.witness_of_range.Goals as goal

numbers_made : {n f l : ℕ} {ends : Ends} → EndsOf n f l ends → numbers_of_range ends.places ends.first ends.last ≡ numbers_of_range n f l
numbers_made {n} {f} {l} {ends} of = ap (λ k. numbers_of_range k ends.first ends.last) of.places ∙ ap₂ (numbers_of_range n) of.first of.last

pub write_numbers-requires : goal.write_numbers-requires
write_numbers-requires c =
    let n = places_of c.args.width in
    let made = c.in_ok-ends.ensures.made in
    let ends = ends_fit made in
    let few = range_few n c.args.range.first c.args.range.last (places_some c.args.width) in
    let most = most_few n (places_most c.args.width) in
    let count = range_counted n c.args.range.first c.args.range.last ends.0 ends.1 in
    let same = ap length (numbers_made made) in
    let none = ap length c.new-numbers.ensures in
    record { room = omega arith }

pub returns : goal.returns
returns c =
    let n = places_of c.args.width in
    let f = c.args.range.first in
    let l = c.args.range.last in
    let made = c.in_ok-ends.ensures.made in
    let ends = ends_fit made in
    let numbers = numbers_of_range n f l in
    let rows = rows_of_range n f l in
    let count = range_counted n f l ends.0 ends.1 in
    let memory = c.args.memory.now in
    let new = c.hand_over.new.memory in
    let all : c.deref.result.now ≡ numbers = c.deref.ensures.0 ∙ c.write_numbers.ensures.numbers ∙ ap₂ (λ x y. x ++ y) c.new-numbers.ensures (numbers_made made) in
    let over = c.hand_over.ensures in
    let granted = handed c.deref.result.now memory new numbers c.hand_over.result over.answer over.copied all in
    let found : new ≡ numbers ++ drop (length numbers) memory → Witness n (in_range f l) (take (length numbers) new) = λ at.
    subst (Witness n (in_range f l)) (sym (ap (take (length numbers)) at ∙ take_at numbers (drop (length numbers) memory) (length numbers) refl)) (numbers_witness n f l ends.0 ends.1) in
    record {
      answer =
          handed_answer c.deref.result.now memory new numbers c.hand_over.result over.answer over.copied all ∙
          ap (λ k. cond (nat_le k (length memory)) (Ok k) (Err MemoryTooShort)) count ∙
          ap (λ b. cond b (cond (nat_le (length rows) (length memory)) (Ok (length rows)) (Err MemoryTooShort)) (Err NumberOutsideWidth)) (sym (ends_granted made));
      numbers_left_free = granted (λ k. (xs : List ℕ) × (length xs ≡ k) × (new ≡ xs ++ drop k memory)) (λ at. (numbers, refl, at));
      untouched_when_refused = over.untouched_when_refused;
      as_many = granted (λ k. k ≡ length rows) (λ at. count);
      members = granted (λ k. AllByRecursion (λ x. (x < 2 ^ n) × (in_range f l x ≡ true)) (take k new)) (λ at. (found at).members);
      parted = granted (λ k. Pairs (Parted n (in_range f l)) (take k new)) (λ at. (found at).parted);
      witness = granted (λ k. Witness n (in_range f l) (take k new)) found;
    }
