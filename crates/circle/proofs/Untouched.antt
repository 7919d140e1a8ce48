-- The runs of a set do not touch on the circle.
use Rattle.std.proofs.Common.{◌≡◌, ℕ, ◌-◌, ◌^◌, ◌<◌, ◌≤◌, true, false, List, [], ◌∷◌, sym, refl, ap, ◌∙◌, inl, inr, arith, pow_pos}
use Rattle.std.specs.List.{AllByRecursion}
use Rattle.std.proofs.lemmas.Bool.{both_ways, true≢false, cases_Bool, cases_lt}
use Rattle.covers.specs.Rivals.{NumberSet, Pairs, in_range, in_ranges}
use Rattle.covers.specs.Theorems.{Run, ApartInLine}
use Rattle.covers.proofs.Lists.{all_mono, all_both}
use Rattle.covers.proofs.Shortness.{bounded}
use Rattle.circle.specs.Runs.{before, after, runs}
use Rattle.circle.specs.Theorems.{Between, IsRuns, Longest, RunsUntouched, Untouched, UntouchedAsWritten, UntouchedBounded}
use Rattle.circle.proofs.Circle.{before_cases, before_fits, after_cases, after_fits, ahead, ahead_after, ahead_before, ahead_cases, ahead_fits, ahead_self, no_step, le_in_range}
use Rattle.circle.proofs.Ranges.{among}
use Rattle.circle.proofs.Runs.{are_runs}

-- the numbers right beside a run are outside the set, so they are in no run
pub untouched : (n : ℕ) (S : NumberSet) (ranges : List (ℕ × ℕ)) → IsRuns n S ranges → Untouched n ranges
untouched n S ranges R = all_mono {P = Longest n S} {Q = Longest n (in_ranges ranges)} alone ranges R.longest
  where
    alone : (r : ℕ × ℕ) → Longest n S r → Longest n (in_ranges ranges) r
    alone r (inl e) = inl e
    alone r (inr e) = inr (R.covering (before n r.0) (before_fits n r.0) ∙ e.0, R.covering (after n r.1) (after_fits n r.1) ∙ e.1)

-- what is apart on the circle is apart in line
in_line : (n : ℕ) (ranges : List (ℕ × ℕ)) → AllByRecursion (λ r. Run n r.0 r.1) ranges → Untouched n ranges → AllByRecursion (ApartInLine n ranges) ranges
in_line n ranges all un = all_both {P = λ r. Run n r.0 r.1} {Q = Longest n (in_ranges ranges)} {R = ApartInLine n ranges} (λ r. alone r.0 r.1) ranges all un
  where
    alone : (f l : ℕ) → Run n f l → Longest n (in_ranges ranges) (f, l) → ApartInLine n ranges (f, l)
    alone f l r (inl e) x hx (inl k) = let h = e.0 in absurd (omega arith)
    alone f l r (inl e) x hx (inr k) = let h = e.1 in let p = pow_pos n in absurd (omega arith)
    alone f l r (inr e) x hx (inl k) =
        let c = before_cases n f r.first_fits in
        let b : x ≡ before n f = omega arith in
        ap (in_ranges ranges) b ∙ e.0
    alone f l r (inr e) x hx (inr k) =
        let c = after_cases n l r.last_fits in
        let a : x ≡ after n l = omega arith in
        ap (in_ranges ranges) a ∙ e.1

pub untouched_bounded : UntouchedBounded
untouched_bounded n ranges all un = bounded n ranges all (in_line n ranges all un)

-- two runs of a set
module _ (n : ℕ) (S : NumberSet) where
  record OfSet (r : ℕ × ℕ) : Type 0 where
    pub proper : Run n r.0 r.1
    pub longest : Longest n S r
    pub inside : (x : ℕ) → x < 2 ^ n → in_range r.0 r.1 x ≡ true → S x ≡ true

  in_whole : (r : ℕ × ℕ) → OfSet r → (r.0 ≡ 0) × (r.1 ≡ 2 ^ n - 1) → (x : ℕ) → x < 2 ^ n → S x ≡ true
  in_whole r m e x hx =
      let e0 = e.0 in
      let e1 = e.1 in
      let hf = m.proper.first_fits in
      let hl = m.proper.last_fits in
      let a = ahead_cases n r.0 r.1 hf hl in
      let b = ahead_cases n r.0 x hf hx in
      m.inside x hx (le_in_range n r.0 r.1 x hf hl hx (omega arith))

  -- neither is the whole circle
  beside : (r q : ℕ × ℕ) → OfSet r → OfSet q → (r.0 ≡ q.0 → ⊥) → (S (before n r.0) ≡ false) × (S (after n r.1) ≡ false)
  beside r q a b d = go a.longest b.longest
    where
      go : Longest n S r → Longest n S q → (S (before n r.0) ≡ false) × (S (after n r.1) ≡ false)
      go (inr e) k = e
      go (inl e) (inl k) = absurd (d (e.0 ∙ sym k.0))
      go (inl e) (inr k) = absurd (both_ways (S (before n q.0)) k.0 (in_whole r a e (before n q.0) (before_fits n q.0)))

  -- the number after the first one lies between them
  between : (r q : ℕ × ℕ) → OfSet r → OfSet q → (r.0 ≡ q.0 → ⊥) → Between n r q
  between r q a b d = (after n r.1, after_fits n r.1, le_in_range n r.1 q.0 (after n r.1) hl hf (after_fits n r.1) reached, out r a, out q b)
    where
      hl : r.1 < 2 ^ n
      hl = a.proper.last_fits

      hf : q.0 < 2 ^ n
      hf = b.proper.first_fits

      -- the second does not begin where the first ends: the number before that is of the first, unless it is just one number
      not_there : q.0 ≡ r.1 → ⊥
      not_there e =
          let h = a.proper.first_fits in
          elim (cases_lt 0 (ahead n r.0 r.1)) [
            | inl k ↦
                let s = ahead_before n r.0 r.1 h hl k in
                both_ways (S (before n r.1)) (ap (λ x. S (before n x)) (sym e) ∙ (beside q r b a (λ z. d (sym z))).0)
                (a.inside (before n r.1) (before_fits n r.1) (le_in_range n r.0 r.1 (before n r.1) h hl (before_fits n r.1) (omega arith)))
            | inr k ↦ d (sym (no_step n r.0 r.1 h hl k) ∙ sym e)
          ]

      reached : ahead n r.1 (after n r.1) ≤ ahead n r.1 q.0
      reached = elim (cases_lt 0 (ahead n r.1 q.0)) [
        | inl k ↦
            let p = ahead_fits n r.1 q.0 hl hf in
            let o = ahead_self n r.1 hl in
            let s = ahead_after n r.1 r.1 hl hl (omega arith) in
            omega arith
        | inr k ↦ absurd (not_there (no_step n r.1 q.0 hl hf k))
      ]

      out : (p : ℕ × ℕ) → OfSet p → in_range p.0 p.1 (after n r.1) ≡ false
      out p m = elim (cases_Bool (in_range p.0 p.1 (after n r.1))) [
        | inl i ↦ absurd (both_ways (S (after n r.1)) (beside r q a b d).1 (m.inside (after n r.1) (after_fits n r.1) i))
        | inr i ↦ i
      ]

  apart : (ranges : List (ℕ × ℕ)) → AllByRecursion OfSet ranges → Pairs (λ r q. r.0 < q.0) ranges → Pairs (λ r q. Between n r q × Between n q r) ranges
  apart [] all up = tt
  apart (r ∷ ranges) all up = (
    all_both {P = OfSet} {Q = λ q. r.0 < q.0} {R = λ q. Between n r q × Between n q r}
        (λ q m k. (between r q all.0 m (λ e. omega arith), between q r m all.0 (λ e. omega arith))) ranges all.1 up.0,
    apart ranges all.1 up.1,
  )

  pub runs_apart : (ranges : List (ℕ × ℕ)) → IsRuns n S ranges → Pairs (λ r q. Between n r q × Between n q r) ranges
  runs_apart ranges R = apart ranges (all_both {P = λ r. Run n r.0 r.1 × Longest n S r} {Q = λ r. (x : ℕ) → in_range r.0 r.1 x ≡ true → in_ranges ranges x ≡ true} {R = OfSet}
      (λ r p f. record { proper = p.0; longest = p.1; inside = λ x hx i. sym (R.covering x hx) ∙ f x i }) ranges
      (all_both {P = λ r. Run n r.0 r.1} {Q = Longest n S} (λ r p q. (p, q)) ranges R.proper R.longest) (among ranges)) R.ascending

pub runs_untouched : RunsUntouched
runs_untouched = record {
  proper = λ n S. (are_runs n S).proper;
  untouched = λ n S. untouched n S (runs n S) (are_runs n S);
  apart = λ n S. runs_apart n S (runs n S) (are_runs n S);
}

pub as_written : UntouchedAsWritten
as_written = record {
  round = λ h. no_whole h.0;
  in_line = λ h. no_other h.0;
  apart = (inr (refl, refl), (inr (refl, refl), tt));
  circle = (inl (refl, refl), tt);
}
  where
    no_whole : Longest 3 (in_ranges ((0, 1) ∷ (6, 7) ∷ [])) (0, 1) → ⊥
    no_whole (inl e) = let k = e.1 in omega arith
    no_whole (inr e) = true≢false e.0

    no_other : Longest 3 (in_ranges ((1, 2) ∷ (3, 4) ∷ [])) (1, 2) → ⊥
    no_other (inl e) = let k = e.0 in omega arith
    no_other (inr e) = true≢false e.1
