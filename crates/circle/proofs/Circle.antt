-- Neighbours on the circle, and how far up the circle one number is from another.
use Rattle.std.proofs.Common.{◌≡◌, ℕ, ◌+◌, ◌-◌, ◌%◌, ◌^◌, ◌<◌, ◌≤◌, Bool, true, false, cond, leb, ◌⊎◌, sym, refl, ap, ◌∙◌, inl, inr, mod-lt, mod-eq_of_lt, arith, pow_pos}
use native.Mathlib.Nat.{mod_self, add-mod_right}
use Rattle.std.proofs.lemmas.Bool.{leb-true, leb-false, le-leb, cases_lt}
use Rattle.std.proofs.lemmas.Bool.Decides.{nat_tests}
use Rattle.covers.specs.Rivals.{in_range}
use Rattle.circle.specs.Runs.{before, after}

pub before_fits : (n x : ℕ) → before n x < 2 ^ n
before_fits n x = mod-lt (x + (2 ^ n - 1)) (pow_pos n)

pub after_fits : (n x : ℕ) → after n x < 2 ^ n
after_fits n x = mod-lt (x + 1) (pow_pos n)

pub after_cases : (n x : ℕ) → x < 2 ^ n → ((x + 1 < 2 ^ n) × (after n x ≡ x + 1)) ⊎ ((x + 1 ≡ 2 ^ n) × (after n x ≡ 0))
after_cases n x h = elim (cases_lt (x + 1) (2 ^ n)) [ inl k ↦ inl (k, mod-eq_of_lt k) | inr k ↦ inr (top k, ap (λ m. m % 2 ^ n) (top k) ∙ mod_self (2 ^ n)) ]
  where
    top : 2 ^ n ≤ x + 1 → x + 1 ≡ 2 ^ n
    top k = omega arith

pub before_cases : (n x : ℕ) → x < 2 ^ n → ((x ≡ 0) × (before n x + 1 ≡ 2 ^ n)) ⊎ ((0 < x) × (before n x + 1 ≡ x))
before_cases n x h = elim (cases_lt 0 x) [ inl k ↦ inr (k, up k) | inr k ↦ inl (omega arith, low k) ]
  where
    low : x ≤ 0 → before n x + 1 ≡ 2 ^ n
    low k =
        let p = pow_pos n in
        let e : x + (2 ^ n - 1) < 2 ^ n = omega arith in
        let v = mod-eq_of_lt e in
        omega arith

    up : 0 < x → before n x + 1 ≡ x
    up k =
        let p = pow_pos n in
        let e : x + (2 ^ n - 1) ≡ x - 1 + 2 ^ n = omega arith in
        let v = add-mod_right (x - 1) (2 ^ n) in
        let i : x - 1 < 2 ^ n = omega arith in
        let w = mod-eq_of_lt i in
        let u = ap (λ m. m % 2 ^ n) e in
        omega arith

-- how many steps up the circle lead from f to x
pub ahead : ℕ → ℕ → ℕ → ℕ
ahead n f x = cond (leb f x) (x - f) (x + 2 ^ n - f)

module _ (n : ℕ) where
  pub ahead_cases : (f x : ℕ) → f < 2 ^ n → x < 2 ^ n → ((f ≤ x) × (f + ahead n f x ≡ x)) ⊎ ((x < f) × (f + ahead n f x ≡ x + 2 ^ n))
  unfolding ahead
  ahead_cases f x hf hx = go (leb f x) refl
    where
      go : (t : Bool) → leb f x ≡ t → ((f ≤ x) × (f + cond t (x - f) (x + 2 ^ n - f) ≡ x)) ⊎ ((x < f) × (f + cond t (x - f) (x + 2 ^ n - f) ≡ x + 2 ^ n))
      go true e = let k = leb-true f x e in inl (k, omega arith)
      go false e = let k = leb-false f x e in inr (k, omega arith)

  pub ahead_fits : (f x : ℕ) → f < 2 ^ n → x < 2 ^ n → ahead n f x < 2 ^ n
  ahead_fits f x hf hx = elim (ahead_cases f x hf hx) [ inl p ↦ omega arith | inr p ↦ omega arith ]

  pub ahead_self : (f : ℕ) → f < 2 ^ n → ahead n f f ≡ 0
  ahead_self f hf = elim (ahead_cases f f hf hf) [ inl p ↦ omega arith | inr p ↦ omega arith ]

  pub ahead_same : (f x y : ℕ) → f < 2 ^ n → x < 2 ^ n → y < 2 ^ n → ahead n f x ≡ ahead n f y → x ≡ y
  ahead_same f x y hf hx hy e =
      elim (ahead_cases f x hf hx) [
        | inl p ↦ elim (ahead_cases f y hf hy) [ inl q ↦ omega arith | inr q ↦ omega arith ]
        | inr p ↦ elim (ahead_cases f y hf hy) [ inl q ↦ omega arith | inr q ↦ omega arith ]
      ]

  pub no_step : (f x : ℕ) → f < 2 ^ n → x < 2 ^ n → ahead n f x ≤ 0 → x ≡ f
  no_step f x hf hx h = let e = ahead_self f hf in ahead_same f x f hf hx hf (omega arith)

  -- one step on from x
  pub ahead_after : (f x : ℕ) → f < 2 ^ n → x < 2 ^ n → ahead n f x + 1 < 2 ^ n → ahead n f (after n x) ≡ ahead n f x + 1
  ahead_after f x hf hx h =
      let p = ahead_cases f x hf hx in
      let q = ahead_cases f (after n x) hf (after_fits n x) in
      let r = after_cases n x hx in
      omega arith

  -- one step back from x
  pub ahead_before : (f x : ℕ) → f < 2 ^ n → x < 2 ^ n → 0 < ahead n f x → ahead n f (before n x) + 1 ≡ ahead n f x
  ahead_before f x hf hx h =
      let p = ahead_cases f x hf hx in
      let q = ahead_cases f (before n x) hf (before_fits n x) in
      let r = before_cases n x hx in
      omega arith

  -- one step on from f
  pub ahead_from_after : (f x : ℕ) → f < 2 ^ n → x < 2 ^ n → 0 < ahead n f x → ahead n (after n f) x + 1 ≡ ahead n f x
  ahead_from_after f x hf hx h =
      let p = ahead_cases f x hf hx in
      let q = ahead_cases (after n f) x (after_fits n f) hx in
      let r = after_cases n f hf in
      omega arith

  -- a number is in the range from f to l if it is no further up from f than l is
  module _ (f l x : ℕ) (hf : f < 2 ^ n) (hl : l < 2 ^ n) (hx : x < 2 ^ n) where
    pub in_range_ahead : in_range f l x ≡ leb (ahead n f x) (ahead n f l)
    in_range_ahead =
        let p = ahead_cases f x hf hx in
        let q = ahead_cases f l hf hl in
        grind (arith, nat_tests)

    pub in_range_le : in_range f l x ≡ true → ahead n f x ≤ ahead n f l
    in_range_le e = leb-true (ahead n f x) (ahead n f l) (sym in_range_ahead ∙ e)

    pub le_in_range : ahead n f x ≤ ahead n f l → in_range f l x ≡ true
    le_in_range h = in_range_ahead ∙ le-leb (ahead n f x) (ahead n f l) h
