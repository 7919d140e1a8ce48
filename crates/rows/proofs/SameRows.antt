-- Rows are the same where their words are, and a comparison by the words is equality.
use Rattle.std.proofs.Common.{◌≡◌, ℕ, ◌&&◌, ap, subst, arith}
use Rattle.std.proofs.lemmas.Bool.{eq-eqb}
use Rattle.std.proofs.lemmas.Bool.Decides.{nat_tests}
use Rattle.std.specs.Prelude.{nat_eq}
use Rattle.std.specs.Cmp.Derive.{both_true}
use native.Mathlib.Nat.{ℕ_set}
use lib.Bits.{bit_and}
use Rattle.rows.specs.declared.row.Row.{Row}
use Rattle.covers.specs.Equality.{IsEquality}

abbrev build : (v c : ℕ) → bit_and v c ≡ v → Row
build v c h = record { value = v; care = c; clean = h }

pub row_same : (a b : Row) → a.value ≡ b.value → a.care ≡ b.care → a ≡ b
row_same a b p q =
    subst (λ (c : ℕ). (h : bit_and b.value c ≡ b.value) → a ≡ build b.value c h) q
    (λ h. subst (λ (v : ℕ). (h : bit_and v a.care ≡ v) → a ≡ build v a.care h) p
    (λ h. ap (build a.value a.care) (ℕ_set (bit_and a.value a.care) a.value a.clean h)) h)
    b.clean

pub row_equality : IsEquality {X = Row} (λ a b. nat_eq a.value b.value && nat_eq a.care b.care)
row_equality = record {
  same = λ a b e. row_same a b (grind (arith, nat_tests)) (grind (arith, nat_tests));
  yes = λ a b e. both_true (eq-eqb a.value b.value (ap (λ (r : Row). r.value) e)) (eq-eqb a.care b.care (ap (λ (r : Row). r.care) e));
}
