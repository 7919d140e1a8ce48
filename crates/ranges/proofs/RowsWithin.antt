-- The rows of those of several ranges that lie within a width.
use Rattle.std.proofs.Common.{◌≡◌, ℕ, zero, suc, ◌+◌, ◌*◌, ◌-◌, ◌^◌, ◌<◌, ◌≤◌, Bool, true, false, cond, leb, List, [], ◌∷◌, ◌++◌, length, map, get_or, take, drop, Ok, Err, Result, sym, refl, ap, ◌∙◌, subst, ap₂, arith, pow_mono}
use borrow.Rule.Slice.PartMut.{put_mid}
use Rattle.std.proofs.lemmas.List.{length-append, length-map, take_more, map_push, flat_map_more, append-nil, drop_all, drop-drop, length-drop, take_all, take_rest}
use Rattle.std.proofs.lemmas.Slice.{put_mid-paste}
use Rattle.std.proofs.lemmas.Bool.{and_parts, cond-true, le-leb, both_ways}
use Rattle.covers.specs.Rivals.{NumberSet}
use Rattle.covers.specs.Symbols.{Symbols}
use Rattle.covers.specs.Rules.{rows_of_range}
use Rattle.covers.proofs.RangeLists.{range_few, most_few}
use Rattle.covers.proofs.RowLengths.{Long}
use Rattle.circle.specs.Runs.{begins, last_from, passing, rows_of_set, runs, whole}
use Rattle.rows.specs.declared.range.Range.{Range}
use Rattle.rows.specs.declared.refusal.Refusal.{Refusal}
use Rattle.rows.specs.declared.refusal.Refusal.TheVariants.{NumberOutsideWidth, MemoryTooShort}
use Rattle.rows.specs.declared.row_words.RowWords.{RowWords}
use Rattle.rows.specs.Memory.{written}
use Rattle.rows.specs.Ranges.{ranges_of}
use Rattle.rows.specs.Widths.{in_width}
use Rattle.rows.proofs.Ranges.{no_range}
use Rattle.ranges.specs.RangeRows.{range_answer}
use Rattle.ranges.specs.RangesWithin.{rows_in_width, rows_of_ranges_within}
use Rattle.ranges.specs.SeveralRanges.{all_in_width, rows_of_ranges}
use Rattle.ranges.proofs.SeveralLists.{its_runs_within, rows_long, rows_of_its_runs}

-- where all ranges lie within the width, none is passed over
pub none_passed_over : (n : ℕ) (ranges : List (ℕ × ℕ)) → all_in_width n ranges ≡ true → rows_of_ranges_within n ranges ≡ rows_of_ranges n ranges
unfolding rows_in_width
none_passed_over n [] h = refl
none_passed_over n (r ∷ ranges) h =
    let p = and_parts (in_width n r.0 r.1) (all_in_width n ranges) h in
    ap₂ (λ (x y : List Symbols). x ++ y) (cond-true (in_width n r.0 r.1) (rows_of_range n r.0 r.1) [] p.0) (none_passed_over n ranges p.1)

-- the runs of a set get its rows
pub set_rows_within : (n : ℕ) (S : NumberSet) (ranges : List (ℕ × ℕ)) → ranges ≡ runs n S → rows_of_ranges_within n ranges ≡ rows_of_set n S
set_rows_within n S ranges e = none_passed_over n ranges (its_runs_within n S ranges e) ∙ rows_of_its_runs n S ranges e

-- every row of a set has a symbol for each digit
pub set_rows_long : (n : ℕ) (S : NumberSet) → Long n (rows_of_set n S)
set_rows_long n S = subst (Long n) (rows_of_its_runs n S (runs n S) refl) (rows_long n (runs n S))

-- at most 62 rows for each range
pub in_width_few : (n : ℕ) (r : ℕ × ℕ) → 1 ≤ n → n ≤ 32 → length (rows_in_width n r) ≤ 62
unfolding rows_in_width
in_width_few n r a b = go (in_width n r.0 r.1)
  where
    go : (t : Bool) → length (cond t (rows_of_range n r.0 r.1) []) ≤ 62
    go true = let x = range_few n r.0 r.1 a in let y = most_few n b in omega arith
    go false = omega arith

pub within_few : (n : ℕ) (ranges : List (ℕ × ℕ)) → 1 ≤ n → n ≤ 32 → length (rows_of_ranges_within n ranges) ≤ 62 * length ranges
within_few n [] a b = omega arith
within_few n (r ∷ ranges) a b =
    let one = in_width_few n r a b in
    let rest = within_few n ranges a b in
    let both = length-append (rows_in_width n r) (rows_of_ranges_within n ranges) in
    omega arith

-- a set has at most as many runs as the circle has numbers
passing_few : (p : ℕ → Bool) (k : ℕ) → length (passing p k) ≤ k
unfolding passing
passing_few p zero = omega arith
passing_few p (suc k) =
    let before = passing_few p k in
    let both = length-append (passing p k) (cond (p k) (k ∷ []) []) in
    let one = last (p k) in
    omega arith
  where
    last : (t : Bool) → length (cond t (k ∷ []) []) ≤ 1
    last true = omega arith
    last false = omega arith

pub runs_few : (n : ℕ) (S : NumberSet) → n ≤ 32 → length (runs n S) ≤ 2 ^ 32
unfolding runs
runs_few n S h =
    let begun = passing (begins n S) (2 ^ n) in
    let all : List (ℕ × ℕ) = map (λ f. (f, last_from n S f)) begun in
    let few = passing_few (begins n S) (2 ^ n) in
    let long : length all ≡ length begun = length-map begun (λ f. (f, last_from n S f)) in
    let most : 2 ^ n ≤ 2 ^ 32 = pow_mono h in
    either (whole n S) ((0, 2 ^ n - 1) ∷ []) all (omega arith) (omega arith)
  where
    either : (t : Bool) (a b : List (ℕ × ℕ)) → length a ≤ 2 ^ 32 → length b ≤ 2 ^ 32 → length (cond t a b) ≤ 2 ^ 32
    either true a b x y = x
    either false a b x y = y

-- one range more
pub within_more : (n : ℕ) (R : List Range) (i : ℕ) → i < length R →
    rows_of_ranges_within n (ranges_of (take (i + 1) R)) ≡
    rows_of_ranges_within n (ranges_of (take i R)) ++ rows_in_width n ((get_or R i no_range).first, (get_or R i no_range).last)
within_more n R i h =
    ap (λ k. rows_of_ranges_within n (ranges_of k)) (take_more R i no_range h) ∙
    ap (rows_of_ranges_within n) (map_push (λ r. (r.first, r.last)) (take i R) (get_or R i no_range)) ∙
    sym (flat_map_more (rows_in_width n) [] (ranges_of (take i R)) ((get_or R i no_range).first, (get_or R i no_range).last))

-- the first ranges have no more rows than all
pub within_front : (n : ℕ) (R : List Range) (i : ℕ) → length (rows_of_ranges_within n (ranges_of (take i R))) ≤ length (rows_of_ranges_within n (ranges_of R))
within_front n [] zero = omega arith
within_front n [] (suc i) = omega arith
within_front n (r ∷ R) zero = omega arith
within_front n (r ∷ R) (suc i) =
    let k = within_front n R i in
    let a = length-append (rows_in_width n (r.first, r.last)) (rows_of_ranges_within n (ranges_of (take i R))) in
    let b = length-append (rows_in_width n (r.first, r.last)) (rows_of_ranges_within n (ranges_of R)) in
    omega arith

-- and no more with one more
pub within_room : (n : ℕ) (R : List Range) (i : ℕ) → i < length R →
    length (rows_of_ranges_within n (ranges_of (take i R))) + length (rows_in_width n ((get_or R i no_range).first, (get_or R i no_range).last)) ≤ length (rows_of_ranges_within n (ranges_of R))
within_room n R i h =
    let a = ap length (within_more n R i h) in
    let b = length-append (rows_of_ranges_within n (ranges_of (take i R))) (rows_in_width n ((get_or R i no_range).first, (get_or R i no_range).last)) in
    let k = within_front n R (i + 1) in
    omega arith

-- what the call on a range answered, by whether it is in the width
module _ (n f l places : ℕ) where
  pub granted : (k : ℕ) → Ok k ≡ range_answer n f l places → (rows_in_width n (f, l) ≡ rows_of_range n f l) × (k ≡ length (rows_of_range n f l))
  unfolding rows_in_width
  granted k e = go (in_width n f l) (leb (length (rows_of_range n f l)) places) e
    where
      go : (s t : Bool) → ◌≡◌ {A = Result ℕ Refusal} (Ok k) (cond s (cond t (Ok (length (rows_of_range n f l))) (Err MemoryTooShort)) (Err NumberOutsideWidth)) →
          (cond s (rows_of_range n f l) [] ≡ rows_of_range n f l) × (k ≡ length (rows_of_range n f l))
      go true true q = (refl, cc)
      go true false q = let z : ◌≡◌ {A = ℕ} 0 1 = cc in absurd (omega arith)
      go false t q = let z : ◌≡◌ {A = ℕ} 0 1 = cc in absurd (omega arith)

  pub refused : (x : Refusal) → Err x ≡ range_answer n f l places → length (rows_in_width n (f, l)) ≤ places → rows_in_width n (f, l) ≡ []
  unfolding rows_in_width
  refused x e h = go (in_width n f l) (leb (length (rows_of_range n f l)) places) refl e h
    where
      go : (s t : Bool) → leb (length (rows_of_range n f l)) places ≡ t →
          ◌≡◌ {A = Result ℕ Refusal} (Err x) (cond s (cond t (Ok (length (rows_of_range n f l))) (Err MemoryTooShort)) (Err NumberOutsideWidth)) →
          length (cond s (rows_of_range n f l) []) ≤ places → cond s (rows_of_range n f l) [] ≡ []
      go true true w q k = let z : ◌≡◌ {A = ℕ} 0 1 = cc in absurd (omega arith)
      go true false w q k = absurd (both_ways (leb (length (rows_of_range n f l)) places) w (le-leb (length (rows_of_range n f l)) places k))
      go false t w q k = refl

-- rows written at the start of the rest of memory
pub part_written : (xs part rows : List RowWords) (at k : ℕ) → at + length rows ≤ length xs → k ≡ length rows → part ≡ rows ++ drop k (take (length xs - at) (drop at xs)) →
    put_mid at (length xs - at) xs part ≡ written xs at rows
part_written xs part rows at k h kr e =
    let tail : part ≡ rows ++ drop (at + length rows) xs =
    e ∙ ap₂ (λ (j : ℕ) (l : List RowWords). rows ++ drop j l) kr (take_rest xs at) ∙ ap (λ (l : List RowWords). rows ++ l) (drop-drop (length rows) at xs) in
    let long = ap length tail ∙ length-append rows (drop (at + length rows) xs) in
    let rest = length-drop (at + length rows) xs in
    let n : length xs - at ≡ length part = omega arith in
    put_mid-paste at (length xs - at) xs part part (length xs - at) refl refl n ∙
    ap₂ (λ (a b : List RowWords). take at xs ++ a ++ b) (take_all (length xs - at) part (omega arith)) (drop_all (at + (length xs - at)) xs (omega arith)) ∙
    append-nil (take at xs ++ part) ∙ ap (λ (l : List RowWords). take at xs ++ l) tail
