-- No list that takes just the numbers of a run is shorter than ours; and the same, up to a factor, for several runs.
use Rattle.std.proofs.Common.{◌≡◌, ℕ, suc, ◌+◌, ◌*◌, ◌^◌, ◌<◌, ◌≤◌, Bool, true, false, leb, List, [], ◌∷◌, map, length, sym, refl, ap, ◌∙◌, subst, inl, inr, add-mul, add_comm, mul-suc, arith}
use Rattle.std.specs.List.{AllByRecursion}
use Rattle.std.proofs.lemmas.List.{length-map, length-append}
use Rattle.std.proofs.lemmas.Bool.{or_left, or_right, leb-true, leb-false}
use Rattle.covers.specs.Digits.{Digits, digits, value, all_ones, all_zeros, next}
use Rattle.covers.specs.Symbols.{Symbols, list_takes}
use Rattle.covers.specs.Rules.{rows_of_run, rows_of_runs}
use Rattle.covers.specs.Rivals.{in_range, in_ranges, Within}
use Rattle.covers.specs.WitnessNumbers.{numbers_of_range}
use Rattle.covers.specs.Theorems.{Run, LowerBound, ListsWitnessed, ListsShortest, ApartInLine}
use Rattle.covers.proofs.Lists.{all_mono, all_both, all_map, pairs_map}
use Rattle.covers.proofs.Witnesses.{Same, previous, Exact, Clash, same_trans}
use Rattle.covers.proofs.Order.{same_next, same_previous}
use Rattle.covers.proofs.Taken.{taken_append}
use Rattle.covers.proofs.LowerBound.{at_least}
use Rattle.covers.proofs.StraightLists.{straight_exact}
use Rattle.covers.proofs.RoundLists.{round_exact}
use Rattle.covers.proofs.SeveralRuns.{straight_bound, round_bound}
use Rattle.covers.proofs.Numbers.{value_digits, of_value, value_fits, same_digits, le_digits, lt_digits, next_value, previous_value}
use Rattle.covers.proofs.Narrowest.{takes_narrowest}
use Rattle.covers.proofs.Exactness.{run_exact, runs_exact}
use Rattle.covers.proofs.WitnessSound.{numbers_witness}
use Rattle.covers.proofs.WitnessCounts.{range_proper, range_counted}

pub lower_bound : LowerBound
lower_bound n S numbers rows W just =
    at_least (digits n 0) (list_takes rows) rows (length numbers) (λ u s. refl) (record {
      these = map (digits n) numbers;
      each = all_map (digits n) (λ u. Same (digits n 0) u × (list_takes rows u ≡ true)) (λ x p. (same_digits n 0 x, just x p.0 ∙ p.1)) numbers W.members;
      apart = pairs_map (digits n) (Clash (list_takes rows))
          (λ x y p q c. (digits n c.0, takes_narrowest (digits n x) (digits n y) (digits n c.0) (same_digits n x y) c.2, just c.0 c.1 ∙ c.3))
          numbers W.members W.parted;
      count = length-map numbers (digits n);
    })

pub witnessed : ListsWitnessed
witnessed n f l r = (
  numbers_of_range n f l,
  range_counted n f l r.first_fits r.last_fits ∙ ap length (range_proper n f l r.proper),
  numbers_witness n f l r.first_fits r.last_fits,
)

pub shortest : ListsShortest
shortest n f l r other R =
    let W = witnessed n f l r in
    subst (λ k. k ≤ length other) W.1
    (lower_bound n (in_range f l) W.0 other W.2 (λ x hx. R.same_numbers x hx ∙ run_exact n f l r x hx))

-- several runs
module _ (n : ℕ) (runs : List (ℕ × ℕ)) (all : AllByRecursion (λ r. Run n r.0 r.1) runs) where
  -- a number in no run is not taken
  not_taken : (u : Digits) → Same (digits n 0) u → in_ranges runs (value u) ≡ false → list_takes (rows_of_runs n runs) u ≡ false
  not_taken u s out =
      ap (list_takes (rows_of_runs n runs)) (sym (of_value n 0 u s)) ∙ runs_exact n runs all (value u) (value_fits n 0 u s) ∙ out

  before : (a : ℕ) → a < 2 ^ n → all_zeros (digits n a) ≡ false → ((x : ℕ) → x < 2 ^ n → x + 1 ≡ a → in_ranges runs x ≡ false) →
      list_takes (rows_of_runs n runs) (previous (digits n a)) ≡ false
  before a ha z f =
      let s = same_trans (digits n 0) (digits n a) (previous (digits n a)) (same_digits n 0 a) (same_previous (digits n a)) in
      not_taken (previous (digits n a)) s (f (value (previous (digits n a))) (value_fits n 0 (previous (digits n a)) s) (previous_value (digits n a) z ∙ value_digits n a ha))

  after : (b : ℕ) → b < 2 ^ n → all_ones (digits n b) ≡ false → ((x : ℕ) → x < 2 ^ n → x ≡ b + 1 → in_ranges runs x ≡ false) →
      list_takes (rows_of_runs n runs) (next (digits n b)) ≡ false
  after b hb o f =
      let s = same_trans (digits n 0) (digits n b) (next (digits n b)) (same_digits n 0 b) (same_next (digits n b)) in
      not_taken (next (digits n b)) s (f (value (next (digits n b))) (value_fits n 0 (next (digits n b)) s) (next_value (digits n b) o ∙ ap (λ k. k + 1) (value_digits n b hb)))

  -- one run against a rival of all
  run_bound : (other : List Symbols) → Exact (digits n 0) (list_takes (rows_of_runs n runs)) other → (r : ℕ × ℕ) → Run n r.0 r.1 → ApartInLine n runs r →
      ((w : Digits) → list_takes (rows_of_run n r.0 r.1) w ≡ true → list_takes (rows_of_runs n runs) w ≡ true) →
      length (rows_of_run n r.0 r.1) ≤ 2 * length other
  run_bound other ex (f, l) R un among = go (leb f l) refl
    where
      s : Same (digits n f) (digits n l)
      s = same_digits n f l

      go : (t : Bool) → leb f l ≡ t → length (rows_of_run n f l) ≤ 2 * length other
      go true e =
          let o = le_digits n f l R.first_fits R.last_fits (leb-true f l e) in
          rw e (straight_bound (digits n 0) (list_takes (rows_of_runs n runs)) other ex (digits n f) (digits n l) (same_digits n 0 f) (same_digits n 0 l) s
          (λ z. before f R.first_fits z (λ x hx k. un x hx (inl k))) (λ z. after l R.last_fits z (λ x hx k. un x hx (inr k))) o
          (λ w t k. among w (rw e (straight_exact (digits n f) (digits n l) s o w (same_trans (digits n f) (digits n 0) w (same_digits n f 0) t) ∙ k))))
      go false e =
          let o = lt_digits n f l R.first_fits R.last_fits (leb-false f l e) in
          rw e (round_bound (digits n 0) (list_takes (rows_of_runs n runs)) other ex (digits n f) (digits n l) (same_digits n 0 f) (same_digits n 0 l) s
          (λ z. before f R.first_fits z (λ x hx k. un x hx (inl k))) (λ z. after l R.last_fits z (λ x hx k. un x hx (inr k))) o
          (λ w t k. among w (rw e (round_exact (digits n f) (digits n l) s o w (same_trans (digits n f) (digits n 0) w (same_digits n f 0) t) ∙ k))))

-- each run's numbers are among those of all
among : (n : ℕ) (runs : List (ℕ × ℕ)) → AllByRecursion (λ r. (w : Digits) → list_takes (rows_of_run n r.0 r.1) w ≡ true → list_takes (rows_of_runs n runs) w ≡ true) runs
among n [] = tt
among n (r ∷ runs) = (
  (λ w h. taken_append (rows_of_run n r.0 r.1) (rows_of_runs n runs) w ∙ or_left (list_takes (rows_of_run n r.0 r.1) w) (list_takes (rows_of_runs n runs) w) h),
  all_mono {P = λ q. (w : Digits) → list_takes (rows_of_run n q.0 q.1) w ≡ true → list_takes (rows_of_runs n runs) w ≡ true}
      {Q = λ q. (w : Digits) → list_takes (rows_of_run n q.0 q.1) w ≡ true → list_takes (rows_of_runs n (r ∷ runs)) w ≡ true}
      (λ q f w h. taken_append (rows_of_run n r.0 r.1) (rows_of_runs n runs) w ∙ or_right (list_takes (rows_of_run n r.0 r.1) w) (list_takes (rows_of_runs n runs) w) (f w h)) runs (among n runs),
)

total : (n k : ℕ) (runs : List (ℕ × ℕ)) → AllByRecursion (λ r. length (rows_of_run n r.0 r.1) ≤ 2 * k) runs → length (rows_of_runs n runs) ≤ 2 * length runs * k
total n k [] h = omega arith
total n k (r ∷ runs) h =
    let h1 = total n k runs h.1 in
    let h2 = h.0 in
    let h3 = length-append (rows_of_run n r.0 r.1) (rows_of_runs n runs) in
    let h4 : 2 * suc (length runs) * k ≡ 2 * k + 2 * length runs * k = ap (λ j. j * k) (mul-suc 2 (length runs)) ∙ add-mul (2 * length runs) 2 k ∙ add_comm (2 * length runs * k) (2 * k) in
    omega arith

pub bounded : (n : ℕ) (runs : List (ℕ × ℕ)) → AllByRecursion (λ r. Run n r.0 r.1) runs → AllByRecursion (ApartInLine n runs) runs → Within (length runs) n (rows_of_runs n runs)
bounded n runs all un other R =
    let ex : Exact (digits n 0) (list_takes (rows_of_runs n runs)) other = λ u s.
    ap (list_takes other) (sym (of_value n 0 u s)) ∙ R.same_numbers (value u) (value_fits n 0 u s) ∙ ap (list_takes (rows_of_runs n runs)) (of_value n 0 u s) in
    total n (length other) runs
    (all_both {P = λ r. Run n r.0 r.1 × ApartInLine n runs r} (λ r p f. run_bound n runs all other ex r p.0 p.1 f) runs (all_both (λ r p q. (p, q)) runs all un) (among n runs))
