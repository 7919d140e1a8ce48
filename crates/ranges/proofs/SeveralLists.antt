-- The rows of several ranges.
use Rattle.std.proofs.Common.{◌≡◌, ℕ, zero, suc, ◌+◌, ◌^◌, ◌<◌, ◌≤◌, true, false, List, [], ◌∷◌, ◌++◌, Ok, Err, Result, length, get_or, map, take, drop, sym, refl, ap, ◌∙◌, subst, ap₂, arith}
use lib.Bits.{bit_and}
use Rattle.std.specs.Bool.{⊤}
use Rattle.std.specs.List.{AllByRecursion}
use Rattle.std.proofs.Math.Seq.{drop-append_seam}
use Rattle.std.proofs.lemmas.List.{append_assoc, length-append, length-map, map-append, take_more, map_push, flat_map_more}
use Rattle.std.proofs.lemmas.List.Folds.{list_all_at, list_all-map}
use Rattle.std.proofs.lemmas.Bool.{lt-ltb}
use Rattle.arrayvec.specs.ArrayVec.{ArrayVec}
use Rattle.covers.specs.Rivals.{NumberSet, TakesPrecisely}
use Rattle.covers.specs.Rules.{rows_of_range, rows_of_runs}
use Rattle.covers.specs.Symbols.{Symbols}
use Rattle.covers.specs.Theorems.{Run as ProperRun}
use Rattle.covers.proofs.RangeLists.{range_long}
use Rattle.covers.proofs.RowLengths.{Long, long_join}
use Rattle.covers.proofs.WitnessCounts.{range_proper}
use Rattle.circle.specs.Runs.{rows_of_set, runs}
use Rattle.circle.proofs.Rows.{rows as set_rows}
use Rattle.circle.proofs.Runs.{are_runs}
use Rattle.rows.specs.declared.range.Range.{Range}
use Rattle.rows.specs.declared.refusal.Refusal.{Refusal}
use Rattle.rows.specs.declared.row_words.RowWords.{RowWords}
use Rattle.rows.specs.Memory.{rows_of, words_of}
use Rattle.rows.specs.Ranges.{ranges_of}
use Rattle.rows.specs.Widths.{in_width}
use Rattle.rows.proofs.Ranges.{no_range}
use Rattle.ranges.specs.SeveralRanges.{all_in_width, rows_of_ranges, RowsAdded, RowsMade, RunsOf}
use Rattle.ranges.proofs.RunLists.{words_clean, words_read, words_within}

-- proper runs get the lists of runs
rows_of_propers : (n : ℕ) (ranges : List (ℕ × ℕ)) → AllByRecursion (λ r. ProperRun n r.0 r.1) ranges → rows_of_ranges n ranges ≡ rows_of_runs n ranges
rows_of_propers n [] h = refl
rows_of_propers n (r ∷ ranges) h = ap₂ (λ (x y : List Symbols). x ++ y) (range_proper n r.0 r.1 h.0.proper) (rows_of_propers n ranges h.1)

-- and so do the runs of a set
pub rows_of_its_runs : (n : ℕ) (S : NumberSet) (ranges : List (ℕ × ℕ)) → ranges ≡ runs n S → rows_of_ranges n ranges ≡ rows_of_set n S
rows_of_its_runs n S ranges e = ap (rows_of_ranges n) e ∙ rows_of_propers n (runs n S) (are_runs n S).proper

-- whose ends are numbers of the width
propers_within : (n : ℕ) (ranges : List (ℕ × ℕ)) → AllByRecursion (λ r. ProperRun n r.0 r.1) ranges → all_in_width n ranges ≡ true
propers_within n [] h = refl
propers_within n (r ∷ ranges) h = rw (lt-ltb r.0 (2 ^ n) h.0.first_fits, lt-ltb r.1 (2 ^ n) h.0.last_fits) (propers_within n ranges h.1)

pub its_runs_within : (n : ℕ) (S : NumberSet) (ranges : List (ℕ × ℕ)) → ranges ≡ runs n S → all_in_width n ranges ≡ true
its_runs_within n S ranges e = ap (all_in_width n) e ∙ propers_within n (runs n S) (are_runs n S).proper

-- every row has a symbol for each digit
pub rows_long : (n : ℕ) (ranges : List (ℕ × ℕ)) → Long n (rows_of_ranges n ranges)
rows_long n [] = tt
rows_long n (r ∷ ranges) = long_join n (rows_of_range n r.0 r.1) (rows_of_ranges n ranges) (range_long n r.0 r.1) (rows_long n ranges)

module _ (n : ℕ) (R : List Range) where
  abbrev at : ℕ → Range
  at i = get_or R i no_range

  -- one that is not within
  pub one_outside : (i : ℕ) → i < length R → in_width n (at i).first (at i).last ≡ false → all_in_width n (ranges_of R) ≡ false
  one_outside i h e =
      list_all-map (λ r. in_width n r.0 r.1) (λ r. (r.first, r.last)) R ∙
      list_all_at (λ r. in_width n r.first r.last) R i no_range h e

  -- one range more
  pub rows_more : (i : ℕ) → i < length R →
      rows_of_ranges n (ranges_of (take (i + 1) R)) ≡ rows_of_ranges n (ranges_of (take i R)) ++ rows_of_range n (at i).first (at i).last
  rows_more i h =
      ap (λ k. rows_of_ranges n (ranges_of k)) (take_more R i no_range h) ∙
      ap (rows_of_ranges n) (map_push (λ r. (r.first, r.last)) (take i R) (at i)) ∙
      sym (flat_map_more (λ r. rows_of_range n r.0 r.1) [] (ranges_of (take i R)) ((at i).first, (at i).last))

-- the first ranges have no more rows than all
pub rows_front : (n : ℕ) (R : List Range) (i : ℕ) → length (rows_of_ranges n (ranges_of (take i R))) ≤ length (rows_of_ranges n (ranges_of R))
rows_front n [] zero = omega arith
rows_front n [] (suc i) = omega arith
rows_front n (r ∷ R) zero = omega arith
rows_front n (r ∷ R) (suc i) =
    let k = rows_front n R i in
    let a = length-append (rows_of_range n r.first r.last) (rows_of_ranges n (ranges_of (take i R))) in
    let b = length-append (rows_of_range n r.first r.last) (rows_of_ranges n (ranges_of R)) in
    omega arith

-- the rows of one range more, behind those of the ranges before it and what a list held
module _ (n : ℕ) (R : List Range) (i : ℕ) (here : i < length R) (held done more : List RowWords)
    (so_far : done ≡ held ++ map words_of (rows_of_ranges n (ranges_of (take i R)))) (next : more ≡ map words_of (rows_of_range n (get_or R i no_range).first (get_or R i no_range).last)) where
  pub more_rows : done ++ more ≡ held ++ map words_of (rows_of_ranges n (ranges_of (take (i + 1) R)))
  more_rows =
      let before = rows_of_ranges n (ranges_of (take i R)) in
      let row = rows_of_range n (get_or R i no_range).first (get_or R i no_range).last in
      ap₂ (λ (x y : List RowWords). x ++ y) so_far next ∙
      append_assoc held (map words_of before) (map words_of row) ∙
      ap (λ (l : List RowWords). held ++ l) (sym (map-append words_of before row) ∙ ap (map words_of) (sym (rows_more n R i here)))

  -- they are as many as their words, and no more than all
  pub more_counted : length (done ++ more) ≡ length held + length (rows_of_ranges n (ranges_of (take (i + 1) R)))
  more_counted =
      let rows = rows_of_ranges n (ranges_of (take (i + 1) R)) in
      let a = length-append held (map words_of rows) in
      let b = length-map rows words_of in
      ap length more_rows ∙ omega arith

  pub more_within_all : length done + length more ≤ length held + length (rows_of_ranges n (ranges_of R))
  more_within_all = let a = length-append done more in let b = more_counted in let k = rows_front n R (i + 1) in omega arith

-- rows added to a list that held none
module _ (rows : List Symbols) (room : ℕ) (old new : ArrayVec RowWords) (none : old.items ≡ []) where
  pub made_alone : RowsAdded rows room old new (Ok tt) → RowsMade rows room (Ok new)
  made_alone added =
      let k = ap length none in
      let few = added.1 in
      (added.0 ∙ ap (λ (l : List RowWords). l ++ map words_of rows) none, omega arith)

  pub refused_alone : (e : Refusal) → RowsAdded rows room old new (Err e) → RowsMade rows room (Err e)
  refused_alone e added =
      let k = ap length none in
      let over = added.1 in
      (added.0, omega arith)

-- what is promised of the runs of a set follows
module _ (n : ℕ) (S : NumberSet) (R : List Range) (of : RunsOf n S R) where
  pub set_made : (room : ℕ) (result : Result (ArrayVec RowWords) Refusal) → (all_in_width n (ranges_of R) ≡ true → RowsMade (rows_of_ranges n (ranges_of R)) room result) → RowsMade (rows_of_set n S) room result
  set_made room result made = subst (λ rows. RowsMade rows room result) (rows_of_its_runs n S (ranges_of R) of) (made (its_runs_within n S (ranges_of R) of))

  -- the same of rows added
  pub set_added : (room : ℕ) (old new : ArrayVec RowWords) (result : Result ⊤ Refusal) → (all_in_width n (ranges_of R) ≡ true → RowsAdded (rows_of_ranges n (ranges_of R)) room old new result) → RowsAdded (rows_of_set n S) room old new result
  set_added room old new result added = subst (λ rows. RowsAdded rows room old new result) (rows_of_its_runs n S (ranges_of R) of) (added (its_runs_within n S (ranges_of R) of))

-- the words of all rows
module _ (n : ℕ) (R : List Range) (items : List RowWords) (is : items ≡ map words_of (rows_of_ranges n (ranges_of R))) where
  pub made_within : AllByRecursion (λ w. w.care < 2 ^ n) items
  made_within = subst (AllByRecursion (λ w. w.care < 2 ^ n)) (sym is) (words_within n (rows_of_ranges n (ranges_of R)) (rows_long n (ranges_of R)))

  pub made_clean : AllByRecursion (λ w. bit_and w.value w.care ≡ w.value) items
  made_clean = subst (AllByRecursion (λ w. bit_and w.value w.care ≡ w.value)) (sym is) (words_clean n (rows_of_ranges n (ranges_of R)) (rows_long n (ranges_of R)))

  -- read back, they are the list of the set
  pub read_set : (S : NumberSet) → RunsOf n S R → rows_of n items ≡ rows_of_set n S
  read_set S of = ap (rows_of n) is ∙ words_read n (rows_of_ranges n (ranges_of R)) (rows_long n (ranges_of R)) ∙ rows_of_its_runs n S (ranges_of R) of

  pub read_exact : (S : NumberSet) → RunsOf n S R → TakesPrecisely n (rows_of n items) S
  read_exact S of = subst (λ rows. TakesPrecisely n rows S) (sym (read_set S of)) (set_rows.exact n S)

-- the words of all rows, behind those that a list held
module _ (n : ℕ) (R : List Range) (held items : List RowWords) (is : items ≡ held ++ map words_of (rows_of_ranges n (ranges_of R))) where
  abbrev more : List RowWords
  more = map words_of (rows_of_ranges n (ranges_of R))

  -- behind them stand those that were added
  behind : drop (length held) items ≡ more
  behind = ap (drop (length held)) is ∙ drop-append_seam held more

  pub added_within : AllByRecursion (λ w. w.care < 2 ^ n) (drop (length held) items)
  added_within = made_within n R (drop (length held) items) behind

  pub added_clean : AllByRecursion (λ w. bit_and w.value w.care ≡ w.value) (drop (length held) items)
  added_clean = made_clean n R (drop (length held) items) behind

  -- read back, they are the list of the set
  pub read_added : (S : NumberSet) → RunsOf n S R → rows_of n (drop (length held) items) ≡ rows_of_set n S
  read_added = read_set n R (drop (length held) items) behind

  pub read_added_exact : (S : NumberSet) → RunsOf n S R → TakesPrecisely n (rows_of n (drop (length held) items)) S
  read_added_exact = read_exact n R (drop (length held) items) behind
