-- The ends of a range, by their first digits and what is behind them.
use Rattle.std.proofs.Common.{◌≡◌, ℕ, suc, ◌+◌, ◌%◌, ◌^◌, ◌<◌, ◌≤◌, Bool, true, false, cond, sym, ap, ◌∙◌, zero-add, mod-eq_of_lt}
use Rattle.std.specs.Prelude.{◌==◌}
use Rattle.std.proofs.lemmas.Bool.{eqb-true, eqb-false, lt-leb, le-leb}
use Rattle.covers.specs.Digits.{digit}
use Rattle.covers.proofs.Numbers.{digit_high}
use Rattle.covers.proofs.Turned.{digit_split}
use Rattle.ranges.specs.declared.ends.Ends.{Ends}
use Rattle.ranges.specs.Building.{Split}

-- a number is its first digit and what is behind it
pub split_end : (p m x y : ℕ) → p ≡ suc m → x < 2 ^ p → y ≡ x % 2 ^ m → x ≡ cond (digit m x) (2 ^ m) 0 + y
split_end p m x y e h r =
    let k : x < 2 ^ suc m = rw e at h in
    sym (mod-eq_of_lt k) ∙ digit_split m x ∙ ap (λ j. cond (digit m x) (2 ^ m) 0 + j) (sym r)

-- the last number is the highest, or is not
module _ {r : Bool} (b limit : ℕ) (is : r ≡ (b + 1 == limit)) where
  pub at_top : r ≡ true → b + 1 ≡ limit
  at_top t = eqb-true (b + 1) limit (sym is ∙ t)

  pub below_top : r ≡ false → b + 1 ≡ limit → ⊥
  below_top f = eqb-false (b + 1) limit (sym is ∙ f)

module _ {ends rest : Ends} (s : Split ends rest) where
  pub first_one : digit rest.places ends.first ≡ true → ends.first ≡ 2 ^ rest.places + rest.first
  first_one d = s.first ∙ ap (λ t. cond t (2 ^ rest.places) 0 + rest.first) d

  pub first_zero : digit rest.places ends.first ≡ false → ends.first ≡ rest.first
  first_zero d = s.first ∙ ap (λ t. cond t (2 ^ rest.places) 0 + rest.first) d ∙ zero-add rest.first

  pub last_one : digit rest.places ends.last ≡ true → ends.last ≡ 2 ^ rest.places + rest.last
  last_one d = s.last ∙ ap (λ t. cond t (2 ^ rest.places) 0 + rest.last) d

  pub last_zero : digit rest.places ends.last ≡ false → ends.last ≡ rest.last
  last_zero d = s.last ∙ ap (λ t. cond t (2 ^ rest.places) 0 + rest.last) d ∙ zero-add rest.last

  -- an end below the half begins with 0, another with 1
  fits : {x : ℕ} → x < 2 ^ ends.places → x < 2 ^ suc rest.places
  fits h = rw s.places at h

  pub first_low : ends.first < 2 ^ rest.places → ends.first ≡ rest.first
  first_low h = first_zero (digit_high rest.places ends.first (fits ends.first_within) ∙ lt-leb (2 ^ rest.places) ends.first h)

  pub last_low : ends.last < 2 ^ rest.places → ends.last ≡ rest.last
  last_low h = last_zero (digit_high rest.places ends.last (fits ends.last_within) ∙ lt-leb (2 ^ rest.places) ends.last h)

  pub last_high : 2 ^ rest.places ≤ ends.last → ends.last ≡ 2 ^ rest.places + rest.last
  last_high h = last_one (digit_high rest.places ends.last (fits ends.last_within) ∙ le-leb (2 ^ rest.places) ends.last h)

  pub halves : 2 ^ ends.places ≡ 2 ^ suc rest.places
  halves = ap (λ k. 2 ^ k) s.places
