-- The witness of a range has as many numbers as its list has rows.
use Rattle.std.proofs.Common.{◌≡◌, ℕ, zero, suc, ◌+◌, ◌-◌, ◌%◌, ◌^◌, ◌<◌, ◌≤◌, Bool, true, false, cond, eqb, leb, ◌⊎◌, [], ◌∷◌, length, sym, refl, ap, ◌∙◌, ap₂, inl, inr, mod-lt, mod-eq_of_lt, arith, pow_pos}
use lib.Count.{ones, ones-ones}
use Rattle.std.proofs.lemmas.List.{length-map, length-append}
use Rattle.std.proofs.lemmas.Bool.{cases_lt, lt-ltb, le-ltb, eqb-true, eqb-false, eq-eqb, ne_eqb, le-leb, lt-leb}
use Rattle.covers.specs.declared.symbol.Symbol.TheVariants.{Zero, One}
use Rattle.covers.specs.Digits.{digit, digits, mirror}
use Rattle.covers.specs.Rules.{below, insert, widen, behind, swap_first, straight_rows, round_rows, rows_of_run, rows_of_range}
use Rattle.covers.specs.RuleEquations.{plain}
use Rattle.covers.specs.WitnessNumbers.{alike, each_turned, inner_numbers, parting_numbers, numbers_beside, number_before, number_after, numbers_of_range}
use Rattle.covers.proofs.Numbers.{digits_mod}
use Rattle.covers.proofs.Equations.{equations_hold, mirror_digits}
use Rattle.covers.proofs.RowCounts.{below_ones, lowest_ones, highest_ones, ones_more}
use Rattle.covers.proofs.Turned.{digit_0, digit_1, inner_one, inner_rest, parting_one, parting_rest, beside_parting, beside_shared, beside_one}
use Rattle.covers.proofs.WitnessSound.{before_is, after_is}

-- one number for each 1, and for each 0
lowered_below : (m x : ℕ) → length (each_turned true m x) ≡ length (below (digits m x))
lowered_below zero x = refl
lowered_below (suc m) x = go (digit m x) refl (lowered_below m x)
  where
    go : (t : Bool) → digit m x ≡ t → length (each_turned true m x) ≡ length (below (digits m x)) → length (each_turned true (suc m) x) ≡ length (below (digits (suc m) x))
    go true e ih = rw e (ap suc (ih ∙ sym (length-map (below (digits m x)) (λ r. One ∷ r))))
    go false e ih = rw e (ih ∙ sym (length-map (below (digits m x)) (λ r. Zero ∷ r)))

raised_below : (m x : ℕ) → length (each_turned false m x) ≡ length (below (mirror (digits m x)))
raised_below zero x = refl
raised_below (suc m) x = go (digit m x) refl (raised_below m x)
  where
    go : (t : Bool) → digit m x ≡ t → length (each_turned false m x) ≡ length (below (mirror (digits m x))) → length (each_turned false (suc m) x) ≡ length (below (mirror (digits (suc m) x)))
    go false e ih = rw e (ap suc (ih ∙ sym (length-map (below (mirror (digits m x))) (λ r. One ∷ r))))
    go true e ih = rw e (ih ∙ sym (length-map (below (mirror (digits m x))) (λ r. Zero ∷ r)))

lowered_ones : (m x : ℕ) → length (each_turned true m x) ≡ ones (x % 2 ^ m)
lowered_ones m x = lowered_below m x ∙ ap (λ u. length (below u)) (sym (digits_mod m x)) ∙ below_ones m (x % 2 ^ m) (mod-lt x (pow_pos m))

raised_ones : (m x : ℕ) → length (each_turned false m x) ≡ ones (2 ^ m - 1 - x % 2 ^ m)
raised_ones m x =
    let h = mod-lt x (pow_pos m) in
    raised_below m x ∙ ap (λ u. length (below (mirror u))) (sym (digits_mod m x)) ∙ ap (λ u. length (below u)) (mirror_digits m (x % 2 ^ m) h) ∙ below_ones m (2 ^ m - 1 - x % 2 ^ m) (omega arith)

-- the inner numbers, by the last digits u of the number before and v of the number after
inner_far : (m b a u v k : ℕ) → b % 2 ^ m ≡ u → a % 2 ^ m ≡ v → v ≤ u → 2 ^ m - 1 - u ≡ k → length (inner_numbers m b a) ≡ ones k + ones v
inner_far m b a u v k e f h g =
    let l : a % 2 ^ m ≤ b % 2 ^ m = omega arith in
    ap length (inner_rest m b a (le-ltb (b % 2 ^ m) (a % 2 ^ m) l)) ∙ length-append (each_turned false m b) (each_turned true m a) ∙
    ap₂ ◌+◌ (raised_ones m b ∙ ap ones (ap (λ j. 2 ^ m - 1 - j) e ∙ g)) (lowered_ones m a ∙ ap ones f)

inner_near : (m b a : ℕ) → b % 2 ^ suc m < a % 2 ^ suc m → length (inner_numbers (suc m) b a) ≡ suc (length (inner_numbers m b a))
inner_near m b a h = ap length (inner_one m b a (lt-ltb (b % 2 ^ suc m) (a % 2 ^ suc m) h))

none : ones 0 ≡ 0
none = ones-ones 0

-- the rows of 0a to 1b
abbrev across_length : ℕ → ℕ → ℕ → ℕ
across_length m a b = length (straight_rows (suc m) a (2 ^ m + b))

across_low : (m b : ℕ) → b < 2 ^ m → across_length m 0 b ≡ ones (2 ^ m + (b + 1))
across_low m b h =
    let e : 2 ^ m + b + 1 ≡ 2 ^ m + (b + 1) = omega arith in
    lowest_ones (suc m) (2 ^ m + b) (omega arith) ∙ ap ones e

across_high : (m a b : ℕ) → a < 2 ^ m → b + 1 ≡ 2 ^ m → across_length m a b ≡ ones (2 ^ m + (2 ^ m - a))
across_high m a b h k =
    let e : 2 ^ m + b ≡ 2 ^ suc m - 1 = omega arith in
    let f : 2 ^ suc m - a ≡ 2 ^ m + (2 ^ m - a) = omega arith in
    ap (λ j. length (straight_rows (suc m) a j)) e ∙ highest_ones (suc m) a (omega arith) ∙ ap ones f

-- one number more where the number before is lower, by its last digits, than the number after
abbrev Counted : ℕ → ℕ → ℕ → ℕ → ℕ → Type 0
Counted m a b before after =
    (a ≤ b + 1 → across_length m a b ≡ suc (length (inner_numbers m before after))) ×
    (b + 1 < a → across_length m a b ≡ length (inner_numbers m before after))

-- by the first digits of a and b
module _ (m a b before after : ℕ) (u : before % 2 ^ suc m ≡ a - 1) (v : after % 2 ^ suc m ≡ b + 1) (low : 0 < a) (ha : a < 2 ^ suc m) (hb : b + 1 < 2 ^ suc m) where
  low_before : a ≤ 2 ^ m → before % 2 ^ m ≡ a - 1
  low_before h = let d = digit_0 m before (omega arith) in let e = d.1 in omega arith

  high_before : 2 ^ m < a → before % 2 ^ m ≡ a - 1 - 2 ^ m
  high_before h = let d = digit_1 m before (omega arith) in let e = d.1 in omega arith

  low_after : b + 1 < 2 ^ m → after % 2 ^ m ≡ b + 1
  low_after h = let d = digit_0 m after (omega arith) in let e = d.1 in omega arith

  high_after : 2 ^ m ≤ b + 1 → after % 2 ^ m ≡ b + 1 - 2 ^ m
  high_after h = let d = digit_1 m after (omega arith) in let e = d.1 in omega arith

  near_step : a ≤ b + 1 → length (inner_numbers (suc m) before after) ≡ suc (length (inner_numbers m before after))
  near_step h = inner_near m before after (omega arith)

  -- 0a to 0b
  second_quarter : a < 2 ^ m → b < 2 ^ m → (b + 1 < 2 ^ m → Counted m a b before after) → Counted (suc m) a b before after
  second_quarter la lb ih = elim (cases_lt (b + 1) (2 ^ m)) [
    | inl k ↦ (
      (λ h. let i = (ih k).0 h in let s = near_step h in step ∙ omega arith),
      (λ h.
          let i = (ih k).1 h in
          let e : 2 ^ suc m - 1 - (a - 1) ≡ 2 ^ m + (2 ^ m - a) = omega arith in
          let s = inner_far (suc m) before after (a - 1) (b + 1) (2 ^ m + (2 ^ m - a)) u v (omega arith) e in
          let t = inner_far m before after (a - 1) (b + 1) (2 ^ m - a) (low_before (omega arith)) (low_after k) (omega arith) (omega arith) in
          let o = ones_more m (2 ^ m - a) (omega arith) in
          step ∙ omega arith),
    )
    | inr k ↦ (
      (λ h.
          let top : b + 1 ≡ 2 ^ m = omega arith in
          let i = across_high m a b la top in
          let s = near_step h in
          let z : b + 1 - 2 ^ m ≡ 0 = omega arith in
          let t = inner_far m before after (a - 1) 0 (2 ^ m - a) (low_before (omega arith)) (high_after (omega arith) ∙ z) (omega arith) (omega arith) in
          let o = ones_more m (2 ^ m - a) (omega arith) in
          let n = none in
          step ∙ omega arith),
      (λ h. let z : ⊥ = omega arith in absurd z),
    )
  ]
    where
      step : across_length (suc m) a b ≡ suc (across_length m a b)
      step = ap length (equations_hold.second_quarter m a b low la lb) ∙ ap suc (length-map (straight_rows (suc m) a (2 ^ m + b)) (insert Zero))

  -- 1a to 1b
  third_quarter : 2 ^ m ≤ a → 2 ^ m ≤ b → (2 ^ m < a → Counted m (a - 2 ^ m) (b - 2 ^ m) before after) → Counted (suc m) a b before after
  third_quarter la lb ih = elim (cases_lt (2 ^ m) a) [
    | inl k ↦ (
      (λ h. let i = (ih k).0 (omega arith) in let s = near_step h in step ∙ omega arith),
      (λ h.
          let i = (ih k).1 (omega arith) in
          let e : 2 ^ suc m - 1 - (a - 1) ≡ 2 ^ m - (a - 2 ^ m) = omega arith in
          let f : b + 1 ≡ 2 ^ m + (b - 2 ^ m + 1) = omega arith in
          let g : b + 1 - 2 ^ m ≡ b - 2 ^ m + 1 = omega arith in
          let s = inner_far (suc m) before after (a - 1) (b + 1) (2 ^ m - (a - 2 ^ m)) u v (omega arith) e in
          let t = inner_far m before after (a - 1 - 2 ^ m) (b - 2 ^ m + 1) (2 ^ m - (a - 2 ^ m)) (high_before k) (high_after (omega arith) ∙ g) (omega arith) (omega arith) in
          let o = ones_more m (b - 2 ^ m + 1) (omega arith) in
          let p = ap ones f in
          step ∙ omega arith),
    )
    | inr k ↦ (
      (λ h.
          let z : a - 2 ^ m ≡ 0 = omega arith in
          let i = ap (λ j. across_length m j (b - 2 ^ m)) z ∙ across_low m (b - 2 ^ m) (omega arith) in
          let g : b + 1 - 2 ^ m ≡ b - 2 ^ m + 1 = omega arith in
          let s = near_step h in
          let t = inner_far m before after (a - 1) (b - 2 ^ m + 1) 0 (low_before (omega arith)) (high_after (omega arith) ∙ g) (omega arith) (omega arith) in
          let o = ones_more m (b - 2 ^ m + 1) (omega arith) in
          let n = none in
          step ∙ omega arith),
      (λ h. let z : ⊥ = omega arith in absurd z),
    )
  ]
    where
      step : across_length (suc m) a b ≡ suc (across_length m (a - 2 ^ m) (b - 2 ^ m))
      step =
          let e : a ≡ 2 ^ m + (a - 2 ^ m) = omega arith in
          let f : 2 ^ suc m + b ≡ 2 ^ suc m + (2 ^ m + (b - 2 ^ m)) = omega arith in
          ap₂ (λ j k. length (straight_rows (suc (suc m)) j k)) e f ∙ ap length (equations_hold.third_quarter m (a - 2 ^ m) (b - 2 ^ m) (omega arith) (omega arith)) ∙
          ap suc (length-map (straight_rows (suc m) (a - 2 ^ m) (2 ^ m + (b - 2 ^ m))) (insert One))

  -- 1a to 0b
  inner_quarters : 2 ^ m ≤ a → b < 2 ^ m → Counted (suc m) a b before after
  inner_quarters la lb = (
    (λ h.
        let z : 2 ^ m - (a - 2 ^ m) ≡ 2 ^ m + 0 = omega arith in
        let y : b + 1 ≡ 2 ^ m + 0 = omega arith in
        let x : b + 1 - 2 ^ m ≡ 0 = omega arith in
        let s = near_step h in
        let t = inner_far m before after (a - 1) 0 0 (low_before (omega arith)) (high_after (omega arith) ∙ x) (omega arith) (omega arith) in
        let o = ones_more m 0 (pow_pos m) in
        let p = ap ones z in
        let q = ap ones y in
        let n = none in
        step ∙ omega arith),
    (λ h.
        let e : 2 ^ suc m - 1 - (a - 1) ≡ 2 ^ m - (a - 2 ^ m) = omega arith in
        let s = inner_far (suc m) before after (a - 1) (b + 1) (2 ^ m - (a - 2 ^ m)) u v (omega arith) e in
        step ∙ omega arith),
  )
    where
      step : across_length (suc m) a b ≡ ones (2 ^ m - (a - 2 ^ m)) + ones (b + 1)
      step =
          let e : a ≡ 2 ^ m + (a - 2 ^ m) = omega arith in
          let LowRows = straight_rows m (a - 2 ^ m) (2 ^ m - 1) in
          let high_rows = straight_rows m 0 b in
          ap (λ j. length (straight_rows (suc (suc m)) j (2 ^ suc m + b))) e ∙ ap length (equations_hold.inner_quarters m (a - 2 ^ m) b (omega arith) lb) ∙
          length-append (behind Zero One (straight_rows m (a - 2 ^ m) (2 ^ m - 1))) (behind One Zero (straight_rows m 0 b)) ∙
          ap₂ ◌+◌ (length-map (straight_rows m (a - 2 ^ m) (2 ^ m - 1)) (λ r. Zero ∷ One ∷ r) ∙ highest_ones m (a - 2 ^ m) (omega arith)) (length-map (straight_rows m 0 b) (λ r. One ∷ Zero ∷ r) ∙ lowest_ones m b lb)

  -- 0a to 1b
  outer_quarters : a < 2 ^ m → 2 ^ m ≤ b → Counted m a (b - 2 ^ m) before after → Counted (suc m) a b before after
  outer_quarters la lb ih = (
    (λ h. elim (cases_lt (b - 2 ^ m + 1) a) [
      | inl k ↦
          let i = apart k in
          let s = near_step h in
          let g : b + 1 - 2 ^ m ≡ b - 2 ^ m + 1 = omega arith in
          let t = inner_far m before after (a - 1) (b - 2 ^ m + 1) (2 ^ m - a) (low_before (omega arith)) (high_after (omega arith) ∙ g) (omega arith) (omega arith) in
          whole ∙ i ∙ omega arith
      | inr k ↦ let i = ih.0 k in let s = near_step h in whole ∙ overlap k ∙ omega arith
    ]),
    (λ h. let z : ⊥ = omega arith in absurd z),
  )
    where
      whole : across_length (suc m) a b ≡ across_length (suc m) a (2 ^ m + (b - 2 ^ m))
      whole = let f : b ≡ 2 ^ m + (b - 2 ^ m) = omega arith in ap (across_length (suc m) a) f

      overlap : a ≤ b - 2 ^ m + 1 → across_length (suc m) a (2 ^ m + (b - 2 ^ m)) ≡ suc (across_length m a (b - 2 ^ m))
      overlap k = ap length (equations_hold.ends_overlap m a (b - 2 ^ m) low la (omega arith) k) ∙ ap suc (length-map (straight_rows (suc m) a (2 ^ m + (b - 2 ^ m))) widen)

      apart : b - 2 ^ m + 1 < a → across_length (suc m) a (2 ^ m + (b - 2 ^ m)) ≡ ones (2 ^ m - a) + (2 + ones (b - 2 ^ m + 1))
      apart k =
          ap length (equations_hold.ends_apart m a (b - 2 ^ m) la k) ∙
          length-append (behind Zero Zero (straight_rows m a (2 ^ m - 1))) ((Zero ∷ One ∷ plain m) ∷ (One ∷ Zero ∷ plain m) ∷ behind One One (straight_rows m 0 (b - 2 ^ m))) ∙
          (let p = length-map (straight_rows m a (2 ^ m - 1)) (λ r. Zero ∷ Zero ∷ r) ∙ highest_ones m a la in
          let q = length-map (straight_rows m 0 (b - 2 ^ m)) (λ r. One ∷ One ∷ r) ∙ lowest_ones m (b - 2 ^ m) (omega arith) in
          omega arith)

across_counted : (m a b before after : ℕ) → before % 2 ^ m ≡ a - 1 → after % 2 ^ m ≡ b + 1 → 0 < a → a < 2 ^ m → b + 1 < 2 ^ m → Counted m a b before after
across_counted zero a b before after u v low ha hb = let z : ⊥ = omega arith in absurd z
across_counted (suc m) a b before after u v low ha hb = go (λ a' b'. across_counted m a' b' before after)
  where
    go : ((a' b' : ℕ) → before % 2 ^ m ≡ a' - 1 → after % 2 ^ m ≡ b' + 1 → 0 < a' → a' < 2 ^ m → b' + 1 < 2 ^ m → Counted m a' b' before after) → Counted (suc m) a b before after
    go ih = elim (cases_lt a (2 ^ m)) [
      | inl la ↦ elim (cases_lt b (2 ^ m)) [
        | inl lb ↦ second_quarter m a b before after u v low ha hb la lb
            (λ k. ih a b (low_before m a b before after u v low ha hb (omega arith)) (low_after m a b before after u v low ha hb k) low la k)
        | inr lb ↦ outer_quarters m a b before after u v low ha hb la lb
            (let g : b + 1 - 2 ^ m ≡ b - 2 ^ m + 1 = omega arith in
            ih a (b - 2 ^ m) (low_before m a b before after u v low ha hb (omega arith)) (high_after m a b before after u v low ha hb (omega arith) ∙ g) low la (omega arith))
      ]
      | inr la ↦ elim (cases_lt b (2 ^ m)) [
        | inl lb ↦ inner_quarters m a b before after u v low ha hb la lb
        | inr lb ↦ third_quarter m a b before after u v low ha hb la lb
            (λ k.
            let g : b + 1 - 2 ^ m ≡ b - 2 ^ m + 1 = omega arith in
            let f : a - 1 - 2 ^ m ≡ a - 2 ^ m - 1 = omega arith in
            ih (a - 2 ^ m) (b - 2 ^ m) (high_before m a b before after u v low ha hb k ∙ f) (high_after m a b before after u v low ha hb (omega arith) ∙ g) (omega arith) (omega arith) (omega arith))
      ]
    ]

-- where both differ at place m, and there is a number before and a number after
parting_counted : (m a b before after : ℕ) → before % 2 ^ m ≡ a - 1 → after % 2 ^ m ≡ b + 1 → 0 < a → a < 2 ^ m → b + 1 < 2 ^ m →
    across_length m a b ≡ length (parting_numbers m before after)
parting_counted m a b before after u v low ha hb = elim (cases_lt (b + 1) a) [
  | inl h ↦
      let l : after % 2 ^ m ≤ before % 2 ^ m = omega arith in
      (across_counted m a b before after u v low ha hb).1 h ∙ sym (ap length (parting_rest m before after (le-ltb (before % 2 ^ m) (after % 2 ^ m) l)))
  | inr h ↦
      let l : before % 2 ^ m < after % 2 ^ m = omega arith in
      (across_counted m a b before after u v low ha hb).0 h ∙ sym (ap length (parting_one m before after (lt-ltb (before % 2 ^ m) (after % 2 ^ m) l)))
]

-- where the last digits of the number after are no higher
parting_far : (m before after u v k : ℕ) → before % 2 ^ m ≡ u → after % 2 ^ m ≡ v → v ≤ u → 2 ^ m - 1 - u ≡ k → length (parting_numbers m before after) ≡ ones k + ones v
parting_far m before after u v k e f h g =
    let l : after % 2 ^ m ≤ before % 2 ^ m = omega arith in
    ap length (parting_rest m before after (le-ltb (before % 2 ^ m) (after % 2 ^ m) l)) ∙ inner_far m before after u v k e f h g

-- the first digits of both
module _ (m x y : ℕ) where
  alike_00 : x % 2 ^ suc m < 2 ^ m → y % 2 ^ suc m < 2 ^ m → alike (digit m x) (digit m y) ≡ true
  alike_00 h k = rw ((digit_0 m x h).0, (digit_0 m y k).0)

  alike_11 : 2 ^ m ≤ x % 2 ^ suc m → 2 ^ m ≤ y % 2 ^ suc m → alike (digit m x) (digit m y) ≡ true
  alike_11 h k = rw ((digit_1 m x h).0, (digit_1 m y k).0)

  alike_01 : x % 2 ^ suc m < 2 ^ m → 2 ^ m ≤ y % 2 ^ suc m → alike (digit m x) (digit m y) ≡ false
  alike_01 h k = rw ((digit_0 m x h).0, (digit_1 m y k).0)

  alike_10 : 2 ^ m ≤ x % 2 ^ suc m → y % 2 ^ suc m < 2 ^ m → alike (digit m x) (digit m y) ≡ false
  alike_10 h k = rw ((digit_1 m x h).0, (digit_0 m y k).0)

-- a straight range with a number before it and a number after it
straight_counted : (n f l before after : ℕ) → before % 2 ^ n ≡ f - 1 → after % 2 ^ n ≡ l + 1 → 0 < f → f ≤ l → l + 1 < 2 ^ n →
    length (straight_rows n f l) ≡ length (numbers_beside false n before after)
straight_counted zero f l before after u v low o hl = let z : ⊥ = omega arith in absurd z
straight_counted (suc m) f l before after u v low o hl = go (λ f' l'. straight_counted m f' l' before after)
  where
    go : ((f' l' : ℕ) → before % 2 ^ m ≡ f' - 1 → after % 2 ^ m ≡ l' + 1 → 0 < f' → f' ≤ l' → l' + 1 < 2 ^ m → length (straight_rows m f' l') ≡ length (numbers_beside false m before after)) →
        length (straight_rows (suc m) f l) ≡ length (numbers_beside false (suc m) before after)
    go ih = elim (cases_lt l (2 ^ m)) [
      | inl hl' ↦
          let b0 = digit_0 m before (omega arith) in
          let zero_first = ap length (equations_hold.same_first_zero m f l o hl') ∙ length-map (straight_rows m f l) (λ r. Zero ∷ r) in
          elim (cases_lt (l + 1) (2 ^ m)) [
            | inl k ↦
                let a0 = digit_0 m after (omega arith) in
                zero_first ∙ ih f l (b0.1 ∙ u) (a0.1 ∙ v) low o k ∙ sym (ap length (beside_shared m before after (alike_00 m before after (omega arith) (omega arith))))
            | inr k ↦
                let a1 = digit_1 m after (omega arith) in
                let top : l ≡ 2 ^ m - 1 = omega arith in
                let z : after % 2 ^ suc m - 2 ^ m ≡ 0 = omega arith in
                let n = none in
                let count = parting_far m before after (f - 1) 0 (2 ^ m - f) (b0.1 ∙ u) (a1.1 ∙ z) (omega arith) (omega arith) in
                zero_first ∙ ap (λ j. length (straight_rows m f j)) top ∙ highest_ones m f (omega arith) ∙
                sym (ap length (beside_parting m before after false (alike_01 m before after (omega arith) (omega arith))) ∙ count ∙ omega arith)
          ]
      | inr hl' ↦
          let a1 = digit_1 m after (omega arith) in
          let w : after % 2 ^ suc m - 2 ^ m ≡ l - 2 ^ m + 1 = omega arith in
          let fl : l ≡ 2 ^ m + (l - 2 ^ m) = omega arith in
          elim (cases_lt f (2 ^ m)) [
            | inl hf ↦
                let b0 = digit_0 m before (omega arith) in
                ap (λ j. length (straight_rows (suc m) f j)) fl ∙ parting_counted m f (l - 2 ^ m) before after (b0.1 ∙ u) (a1.1 ∙ w) low hf (omega arith) ∙
                sym (ap length (beside_parting m before after false (alike_01 m before after (omega arith) (omega arith))))
            | inr hf ↦
                let ff : f ≡ 2 ^ m + (f - 2 ^ m) = omega arith in
                let one_first = ap₂ (λ j k. length (straight_rows (suc m) j k)) ff fl ∙ ap length (equations_hold.same_first_one m (f - 2 ^ m) (l - 2 ^ m) (omega arith) (omega arith)) ∙
                length-map (straight_rows m (f - 2 ^ m) (l - 2 ^ m)) (λ r. One ∷ r) in
                elim (cases_lt (2 ^ m) f) [
                  | inl k ↦
                      let b1 = digit_1 m before (omega arith) in
                      let x : before % 2 ^ suc m - 2 ^ m ≡ f - 2 ^ m - 1 = omega arith in
                      one_first ∙ ih (f - 2 ^ m) (l - 2 ^ m) (b1.1 ∙ x) (a1.1 ∙ w) (omega arith) (omega arith) (omega arith) ∙
                      sym (ap length (beside_shared m before after (alike_11 m before after (omega arith) (omega arith))))
                  | inr k ↦
                      let b0 = digit_0 m before (omega arith) in
                      let z : f - 2 ^ m ≡ 0 = omega arith in
                      let x : before % 2 ^ suc m ≡ 2 ^ m - 1 = omega arith in
                      let n = none in
                      let count = parting_far m before after (2 ^ m - 1) (l - 2 ^ m + 1) 0 (b0.1 ∙ x) (a1.1 ∙ w) (omega arith) (omega arith) in
                      one_first ∙ ap (λ j. length (straight_rows m j (l - 2 ^ m))) z ∙ lowest_ones m (l - 2 ^ m) (omega arith) ∙
                      sym (ap length (beside_parting m before after false (alike_01 m before after (omega arith) (omega arith))) ∙ count ∙ omega arith)
                ]
          ]
    ]

-- the number before has no 0 at the last m places, or the number after no 1
edge_counted : (m before after u v k : ℕ) → before % 2 ^ m ≡ u → after % 2 ^ m ≡ v → (u ≡ 2 ^ m - 1) ⊎ (v ≡ 0) → 2 ^ m - 1 - u ≡ k →
    length (numbers_beside true m before after) ≡ ones k + ones v
edge_counted zero before after u v k e f c g =
    let hu = mod-lt before (pow_pos 0) in
    let hv = mod-lt after (pow_pos 0) in
    let zk : 0 ≡ k = omega arith in
    let zv : 0 ≡ v = omega arith in
    let n = none in
    let p = ap ones zk in
    let q = ap ones zv in
    omega arith
edge_counted (suc m) before after u v k e f c g = go (λ u' v' k'. edge_counted m before after u' v' k')
  where
    hu : before % 2 ^ suc m < 2 ^ suc m
    hu = mod-lt before (pow_pos (suc m))

    hv : after % 2 ^ suc m < 2 ^ suc m
    hv = mod-lt after (pow_pos (suc m))

    shared : alike (digit m before) (digit m after) ≡ true → length (numbers_beside true (suc m) before after) ≡ suc (length (numbers_beside true m before after))
    shared k = ap length (beside_one m before after k)

    go : ((u' v' k' : ℕ) → before % 2 ^ m ≡ u' → after % 2 ^ m ≡ v' → (u' ≡ 2 ^ m - 1) ⊎ (v' ≡ 0) → 2 ^ m - 1 - u' ≡ k' → length (numbers_beside true m before after) ≡ ones k' + ones v') →
        length (numbers_beside true (suc m) before after) ≡ ones k + ones v
    go ih = elim (cases_lt u (2 ^ m)) [
      | inl lu ↦
          let hu' = hu in
          let b0 = digit_0 m before (omega arith) in
          let z : v ≡ 0 = elim c [ inl p ↦ let y : ⊥ = omega arith in absurd y | inr p ↦ p ] in
          let a0 = digit_0 m after (omega arith) in
          let kk : k ≡ 2 ^ m + (2 ^ m - 1 - u) = omega arith in
          let i = ih u v (2 ^ m - 1 - u) (b0.1 ∙ e) (a0.1 ∙ f) (inr z) refl in
          let o = ones_more m (2 ^ m - 1 - u) (omega arith) in
          let p = ap ones kk in
          shared (alike_00 m before after (omega arith) (omega arith)) ∙ omega arith
      | inr lu ↦
          let hu' = hu in
          let b1 = digit_1 m before (omega arith) in
          let x : before % 2 ^ suc m - 2 ^ m ≡ u - 2 ^ m = omega arith in
          elim (cases_lt v (2 ^ m)) [
            | inl lv ↦
                let a0 = digit_0 m after (omega arith) in
                let far : v ≤ u - 2 ^ m = elim c [ inl p ↦ omega arith | inr p ↦ omega arith ] in
                ap length (beside_parting m before after true (alike_10 m before after (omega arith) (omega arith))) ∙
                parting_far m before after (u - 2 ^ m) v k (b1.1 ∙ x) (a0.1 ∙ f) far (omega arith)
            | inr lv ↦
                let hv' = hv in
                let a1 = digit_1 m after (omega arith) in
                let pp = pow_pos m in
                let full : u ≡ 2 ^ suc m - 1 = elim c [ inl p ↦ p | inr p ↦ let y : ⊥ = omega arith in absurd y ] in
                let y : after % 2 ^ suc m - 2 ^ m ≡ v - 2 ^ m = omega arith in
                let vv : v ≡ 2 ^ m + (v - 2 ^ m) = omega arith in
                let i = ih (u - 2 ^ m) (v - 2 ^ m) k (b1.1 ∙ x) (a1.1 ∙ y) (inl (omega arith)) (omega arith) in
                let o = ones_more m (v - 2 ^ m) (omega arith) in
                let p = ap ones vv in
                shared (alike_11 m before after (omega arith) (omega arith)) ∙ omega arith
          ]
    ]

-- a run that goes round
round_counted : (n f l before after : ℕ) → before % 2 ^ n ≡ f - 1 → after % 2 ^ n ≡ l + 1 → l + 1 < f → f < 2 ^ n →
    length (round_rows n f l) ≡ length (numbers_beside true n before after)
round_counted zero f l before after u v o hf = let z : ⊥ = omega arith in absurd z
round_counted (suc m) f l before after u v o hf = go (λ f' l'. round_counted m f' l' before after)
  where
    shared : alike (digit m before) (digit m after) ≡ true → suc (length (numbers_beside true m before after)) ≡ length (numbers_beside true (suc m) before after)
    shared k = sym (ap length (beside_one m before after k))

    go : ((f' l' : ℕ) → before % 2 ^ m ≡ f' - 1 → after % 2 ^ m ≡ l' + 1 → l' + 1 < f' → f' < 2 ^ m → length (round_rows m f' l') ≡ length (numbers_beside true m before after)) →
        length (round_rows (suc m) f l) ≡ length (numbers_beside true (suc m) before after)
    go ih = elim (cases_lt f (2 ^ m)) [
      | inl lf ↦
          let b0 = digit_0 m before (omega arith) in
          let a0 = digit_0 m after (omega arith) in
          ap length (equations_hold.round_low m f l lf (omega arith)) ∙ ap suc (length-map (round_rows m f l) (λ r. Zero ∷ r) ∙ ih f l (b0.1 ∙ u) (a0.1 ∙ v) o lf) ∙
          shared (alike_00 m before after (omega arith) (omega arith))
      | inr lf ↦
          let ff : f ≡ 2 ^ m + (f - 2 ^ m) = omega arith in
          elim (cases_lt l (2 ^ m)) [
            | inl ll ↦
                let as_across = ap (λ j. length (round_rows (suc m) j l)) ff ∙ ap length (equations_hold.round_across m (f - 2 ^ m) l (omega arith) ll) ∙
                length-map (straight_rows (suc m) (f - 2 ^ m) (2 ^ m + l)) swap_first in
                elim (cases_lt (2 ^ m) f) [
                  | inl some ↦
                      let b1 = digit_1 m before (omega arith) in
                      let x : before % 2 ^ suc m - 2 ^ m ≡ f - 2 ^ m - 1 = omega arith in
                      elim (cases_lt (l + 1) (2 ^ m)) [
                        | inl k ↦
                            let a0 = digit_0 m after (omega arith) in
                            as_across ∙ parting_counted m (f - 2 ^ m) l before after (b1.1 ∙ x) (a0.1 ∙ v) (omega arith) (omega arith) k ∙
                            sym (ap length (beside_parting m before after true (alike_10 m before after (omega arith) (omega arith))))
                        | inr k ↦
                            let a1 = digit_1 m after (omega arith) in
                            let z : after % 2 ^ suc m - 2 ^ m ≡ 0 = omega arith in
                            let top : l + 1 ≡ 2 ^ m = omega arith in
                            let n = none in
                            let w : 2 ^ m - 1 - (f - 2 ^ m - 1) ≡ 2 ^ m - (f - 2 ^ m) = omega arith in
                            let count = edge_counted m before after (f - 2 ^ m - 1) 0 (2 ^ m - (f - 2 ^ m)) (b1.1 ∙ x) (a1.1 ∙ z) (inr refl) w in
                            let more = ones_more m (2 ^ m - (f - 2 ^ m)) (omega arith) in
                            as_across ∙ across_high m (f - 2 ^ m) l (omega arith) top ∙ more ∙ ap suc (omega arith) ∙ shared (alike_11 m before after (omega arith) (omega arith))
                      ]
                  | inr None-more ↦
                      let b0 = digit_0 m before (omega arith) in
                      let a0 = digit_0 m after (omega arith) in
                      let z : f - 2 ^ m ≡ 0 = omega arith in
                      let x : before % 2 ^ suc m ≡ 2 ^ m - 1 = omega arith in
                      let n = none in
                      let w : 2 ^ m - 1 - (2 ^ m - 1) ≡ 0 = omega arith in
                      let count = edge_counted m before after (2 ^ m - 1) (l + 1) 0 (b0.1 ∙ x) (a0.1 ∙ v) (inl refl) w in
                      let more = ones_more m (l + 1) (omega arith) in
                      as_across ∙ ap (λ j. across_length m j l) z ∙ across_low m l ll ∙ more ∙ ap suc (omega arith) ∙ shared (alike_00 m before after (omega arith) (omega arith))
                ]
            | inr ll ↦
                let b1 = digit_1 m before (omega arith) in
                let a1 = digit_1 m after (omega arith) in
                let x : before % 2 ^ suc m - 2 ^ m ≡ f - 2 ^ m - 1 = omega arith in
                let y : after % 2 ^ suc m - 2 ^ m ≡ l - 2 ^ m + 1 = omega arith in
                let fl : l ≡ 2 ^ m + (l - 2 ^ m) = omega arith in
                ap₂ (λ j k. length (round_rows (suc m) j k)) ff fl ∙ ap length (equations_hold.round_high m (f - 2 ^ m) (l - 2 ^ m) (omega arith) (omega arith)) ∙
                ap suc (length-map (round_rows m (f - 2 ^ m) (l - 2 ^ m)) (λ r. One ∷ r) ∙ ih (f - 2 ^ m) (l - 2 ^ m) (b1.1 ∙ x) (a1.1 ∙ y) (omega arith) (omega arith)) ∙
                shared (alike_11 m before after (omega arith) (omega arith))
          ]
    ]

-- the run of a range
pub range_whole : (n f l : ℕ) → f ≡ l + 1 → rows_of_range n f l ≡ rows_of_run n 0 (2 ^ n - 1)
unfolding rows_of_range
range_whole n f l e = rw (eq-eqb f (l + 1) e)

pub range_proper : (n f l : ℕ) → (f ≡ l + 1 → ⊥) → rows_of_range n f l ≡ rows_of_run n f l
unfolding rows_of_range
range_proper n f l e = rw (ne_eqb f (l + 1) e)

pub run_straight : (n f l : ℕ) → f ≤ l → rows_of_run n f l ≡ straight_rows n f l
run_straight n f l h = rw (le-leb f l h)

pub run_round : (n f l : ℕ) → l < f → rows_of_run n f l ≡ round_rows n f l
run_round n f l h = rw (lt-leb f l h)

whole_count : (n : ℕ) → length (rows_of_run n 0 (2 ^ n - 1)) ≡ 1
whole_count n = ap length (run_straight n 0 (2 ^ n - 1) (omega arith) ∙ equations_hold.whole n)

-- where the number after the range is its first: it is the whole circle
whole_counted : (n f l : ℕ) → l < 2 ^ n → number_after n l ≡ f → length (rows_of_range n f l) ≡ 1
whole_counted n f l hl e = elim (after_is n l hl) [
  | inl p ↦
      let z : f ≡ 0 = sym e ∙ p.1 in
      let top : l ≡ 2 ^ n - 1 = omega arith in
      ap length (range_proper n f l (λ k. omega arith)) ∙ ap₂ (λ j k. length (rows_of_run n j k)) z top ∙ whole_count n
  | inr p ↦ ap length (range_whole n f l (sym e ∙ p.1)) ∙ whole_count n
]

-- else by the number before and the number after
proper_counted : (n f l : ℕ) → f < 2 ^ n → l < 2 ^ n → (number_after n l ≡ f → ⊥) →
    length (numbers_beside (leb (number_after n l) (number_before n f)) n (number_before n f) (number_after n l)) ≡ length (rows_of_range n f l)
proper_counted n f l hf hl ne = elim (before_is n f hf) [
  | inl p ↦ elim (after_is n l hl) [
    | inl q ↦ absurd (ne (q.1 ∙ sym p.0))
    | inr q ↦
        let over : number_after n l ≤ number_before n f = omega arith in
        let z = none in
        let count = edge_counted n (number_before n f) (number_after n l) (2 ^ n - 1) (l + 1) 0 (low_before ∙ p.1) (low_after ∙ q.1) (inl refl) (omega arith) in
        at_order true (le-leb (number_after n l) (number_before n f) over) ∙ count ∙
        sym (ap length (range_proper n f l (λ k. omega arith) ∙ run_straight n f l (omega arith)) ∙ ap (λ j. length (straight_rows n j l)) p.0 ∙ lowest_ones n l hl ∙ omega arith)
  ]
  | inr p ↦ elim (after_is n l hl) [
    | inl q ↦
        let over : number_after n l ≤ number_before n f = omega arith in
        let top : l ≡ 2 ^ n - 1 = omega arith in
        let z = none in
        let count = edge_counted n (number_before n f) (number_after n l) (f - 1) 0 (2 ^ n - f) (low_before ∙ p.1) (low_after ∙ q.1) (inr refl) (omega arith) in
        at_order true (le-leb (number_after n l) (number_before n f) over) ∙ count ∙
        sym (ap length (range_proper n f l (λ k. omega arith) ∙ run_straight n f l (omega arith)) ∙ ap (λ j. length (straight_rows n f j)) top ∙ highest_ones n f hf ∙ omega arith)
    | inr q ↦
        let proper : f ≡ l + 1 → ⊥ = λ k. ne (q.1 ∙ sym k) in
        elim (cases_lt l f) [
          | inl h ↦
              let far : l + 1 < f = omega arith in
              let over : number_after n l ≤ number_before n f = omega arith in
              at_order true (le-leb (number_after n l) (number_before n f) over) ∙
              sym (ap length (range_proper n f l proper ∙ run_round n f l h) ∙ round_counted n f l (number_before n f) (number_after n l) (low_before ∙ p.1) (low_after ∙ q.1) far hf)
          | inr h ↦
              let apart : number_before n f < number_after n l = omega arith in
              at_order false (lt-leb (number_after n l) (number_before n f) apart) ∙
              sym (ap length (range_proper n f l proper ∙ run_straight n f l h) ∙ straight_counted n f l (number_before n f) (number_after n l) (low_before ∙ p.1) (low_after ∙ q.1) p.0 h q.0)
        ]
  ]
]
  where
    low_before : number_before n f % 2 ^ n ≡ number_before n f
    low_before = mod-eq_of_lt (mod-lt (f + 2 ^ n - 1) (pow_pos n))

    low_after : number_after n l % 2 ^ n ≡ number_after n l
    low_after = mod-eq_of_lt (mod-lt (l + 1) (pow_pos n))

    at_order : (t : Bool) → leb (number_after n l) (number_before n f) ≡ t →
        length (numbers_beside (leb (number_after n l) (number_before n f)) n (number_before n f) (number_after n l)) ≡ length (numbers_beside t n (number_before n f) (number_after n l))
    at_order t e = ap (λ (k : Bool). length (numbers_beside k n (number_before n f) (number_after n l))) e

pub range_counted : (n f l : ℕ) → f < 2 ^ n → l < 2 ^ n → length (numbers_of_range n f l) ≡ length (rows_of_range n f l)
unfolding numbers_of_range
range_counted n f l hf hl = go (eqb (number_after n l) f) refl
  where
    go : (t : Bool) → eqb (number_after n l) f ≡ t →
        length (cond t (f ∷ []) (numbers_beside (leb (number_after n l) (number_before n f)) n (number_before n f) (number_after n l))) ≡ length (rows_of_range n f l)
    go true e = sym (whole_counted n f l hl (eqb-true (number_after n l) f e))
    go false e = proper_counted n f l hf hl (eqb-false (number_after n l) f e)
