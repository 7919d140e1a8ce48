-- Every row of a list has a symbol for each digit.
use Rattle.std.proofs.Common.{◌≡◌, ℕ, suc, Bool, true, false, leb, List, [], ◌∷◌, ◌++◌, map, length, sym, refl, ap, ◌∙◌, arith}
use Rattle.std.specs.List.{AllByRecursion}
use Rattle.std.proofs.lemmas.List.{length-map}
use Rattle.covers.specs.declared.symbol.Symbol.{Symbol}
use Rattle.covers.specs.declared.symbol.Symbol.TheVariants.{Zero, One, Dash}
use Rattle.covers.specs.Digits.{Digits, digits, leq, all_ones, all_zeros, next, mirror}
use Rattle.covers.specs.Symbols.{Symbols}
use Rattle.covers.specs.Rules.{dashes, swap, below, upto, onward, insert, widen, behind, middle, across, straight, swap_first, round, straight_rows, round_rows, rows_of_run}
use Rattle.covers.proofs.Lists.{all_map, all_join}
use Rattle.covers.proofs.Witnesses.{Same}
use Rattle.covers.proofs.Order.{same_next, same_mirror}
use Rattle.covers.proofs.Numbers.{same_length, same_digits, length_digits}

abbrev pub Long : ℕ → List Symbols → Type 0
Long n rows = AllByRecursion (λ r. length r ≡ n) rows

pub long_map : (f : Symbols → Symbols) (n k : ℕ) → ((r : Symbols) → length r ≡ n → length (f r) ≡ k) → (rows : List Symbols) → Long n rows → Long k (map f rows)
long_map f n k g rows h = all_map f (λ r. length r ≡ k) g rows h

pub long_join : (n : ℕ) (l k : List Symbols) → Long n l → Long n k → Long n (l ++ k)
long_join n l k h j = all_join (λ r. length r ≡ n) l k h j

pub dashes_long : (u : Digits) → length (dashes u) ≡ length u
dashes_long [] = refl
dashes_long (x ∷ u) = ap suc (dashes_long u)

pub below_long : (c : Digits) → Long (length c) (below c)
below_long [] = tt
below_long (true ∷ c) = (ap suc (dashes_long c), long_map (λ r. One ∷ r) (length c) (suc (length c)) (λ r e. ap suc e) (below c) (below_long c))
below_long (false ∷ c) = long_map (λ r. Zero ∷ r) (length c) (suc (length c)) (λ r e. ap suc e) (below c) (below_long c)

upto_long : (b : Digits) → Long (length b) (upto b)
upto_long b = go (all_ones b) refl
  where
    go : (t : Bool) → all_ones b ≡ t → Long (length b) (upto b)
    go true e = rw e (dashes_long b, tt)
    go false e = rw (e, same_length b (next b) (same_next b)) (below_long (next b))

onward_long : (a : Digits) → Long (length a) (onward a)
onward_long a =
    long_map (map swap) (length (mirror a)) (length a) (λ r e. length-map r swap ∙ e ∙ sym (same_length a (mirror a) (same_mirror a))) (upto (mirror a)) (upto_long (mirror a))

insert_long : (s : Symbol) (n : ℕ) (r : Symbols) → length r ≡ suc n → length (insert s r) ≡ suc (suc n)
insert_long s n [] e = absurd (no_length e)
  where
    no_length : length {A = Symbol} [] ≡ suc n → ⊥
    no_length k = omega arith
insert_long s n (t ∷ r) e = ap suc e

widen_long : (n : ℕ) (r : Symbols) → length r ≡ suc n → length (widen r) ≡ suc (suc n)
widen_long n [] e = insert_long Zero n [] e
widen_long n (Zero ∷ r) e = ap suc e
widen_long n (One ∷ r) e = ap suc e
widen_long n (Dash ∷ r) e = ap suc e

middle_long : (x y : Bool) (a b : Digits) (inner : List Symbols) → length b ≡ length a → Long (suc (length a)) inner → Long (suc (suc (length a))) (middle x y a b inner)
middle_long x y a b inner s h = go x y
  where
    two : (s t : Symbol) (u : Digits) (rows : List Symbols) → length u ≡ length a → Long (length u) rows → Long (suc (suc (length a))) (behind s t rows)
    two s t u rows e k = long_map (λ r. s ∷ t ∷ r) (length u) (suc (suc (length a))) (λ r j. ap suc (ap suc (j ∙ e))) rows k

    row : (s t : Symbol) → length (s ∷ t ∷ dashes a) ≡ suc (suc (length a))
    row s t = ap suc (ap suc (dashes_long a))

    go : (x y : Bool) → Long (suc (suc (length a))) (middle x y a b inner)
    go true false = long_join (suc (suc (length a))) (behind Zero One (onward a)) (behind One Zero (upto b)) (two Zero One a (onward a) refl (onward_long a)) (two One Zero b (upto b) s (upto_long b))
    go false false = (row Zero One, long_map (insert Zero) (suc (length a)) (suc (suc (length a))) (insert_long Zero (length a)) inner h)
    go true true = (row One Zero, long_map (insert One) (suc (length a)) (suc (suc (length a))) (insert_long One (length a)) inner h)
    go false true = at (leq a (next b)) refl
      where
        at : (t : Bool) → leq a (next b) ≡ t → Long (suc (suc (length a))) (middle false true a b inner)
        at true e = rw e (row Zero One, long_map widen (suc (length a)) (suc (suc (length a))) (widen_long (length a)) inner h)
        at false e = rw e (long_join (suc (suc (length a))) (behind Zero Zero (onward a)) ((Zero ∷ One ∷ dashes a) ∷ (One ∷ Zero ∷ dashes a) ∷ behind One One (upto b))
            (two Zero Zero a (onward a) refl (onward_long a)) (row Zero One, (row One Zero, two One One b (upto b) s (upto_long b))))

pub across_long : (a b : Digits) → Same a b → Long (suc (length a)) (across a b)
across_long [] [] s = (refl, tt)
across_long [] (y ∷ b) s = absurd s
across_long (x ∷ a) [] s = absurd s
across_long (x ∷ a) (y ∷ b) s = go (all_zeros (x ∷ a)) refl (all_ones (y ∷ b)) refl (across_long a b s)
  where
    same : length b ≡ length a
    same = sym (same_length a b s)

    go : (t : Bool) → all_zeros (x ∷ a) ≡ t → (q : Bool) → all_ones (y ∷ b) ≡ q → Long (suc (length a)) (across a b) → Long (suc (suc (length a))) (across (x ∷ a) (y ∷ b))
    go true e q f ih = rw (e, sym same) (upto_long (true ∷ y ∷ b))
    go false e true f ih = rw (e, f) (onward_long (false ∷ x ∷ a))
    go false e false f ih = rw (e, f) (middle_long x y a b (across a b) same ih)

pub straight_long : (a b : Digits) → Same a b → Long (length a) (straight a b)
straight_long [] [] s = (refl, tt)
straight_long [] (y ∷ b) s = absurd s
straight_long (x ∷ a) [] s = absurd s
straight_long (false ∷ a) (false ∷ b) s = long_map (λ r. Zero ∷ r) (length a) (suc (length a)) (λ r e. ap suc e) (straight a b) (straight_long a b s)
straight_long (false ∷ a) (true ∷ b) s = across_long a b s
straight_long (true ∷ a) (false ∷ b) s = tt
straight_long (true ∷ a) (true ∷ b) s = long_map (λ r. One ∷ r) (length a) (suc (length a)) (λ r e. ap suc e) (straight a b) (straight_long a b s)

swap_first_long : (n : ℕ) (r : Symbols) → length r ≡ n → length (swap_first r) ≡ n
swap_first_long n [] e = e
swap_first_long n (s ∷ r) e = e

pub round_long : (f l : Digits) → Same f l → Long (length f) (round f l)
round_long [] l s = tt
round_long (x ∷ f) [] s = absurd s
round_long (false ∷ f) (false ∷ l) s = (ap suc (dashes_long f), long_map (λ r. Zero ∷ r) (length f) (suc (length f)) (λ r e. ap suc e) (round f l) (round_long f l s))
round_long (true ∷ f) (true ∷ l) s = (ap suc (dashes_long f), long_map (λ r. One ∷ r) (length f) (suc (length f)) (λ r e. ap suc e) (round f l) (round_long f l s))
round_long (true ∷ f) (false ∷ l) s = long_map swap_first (suc (length f)) (suc (length f)) (swap_first_long (suc (length f))) (across f l) (across_long f l s)
round_long (false ∷ f) (true ∷ l) s = tt

-- in numbers
pub straight_rows_long : (m a b : ℕ) → Long m (straight_rows m a b)
straight_rows_long m a b = rw (length_digits m a) at (straight_long (digits m a) (digits m b) (same_digits m a b))

pub round_rows_long : (m f l : ℕ) → Long m (round_rows m f l)
round_rows_long m f l = rw (length_digits m f) at (round_long (digits m f) (digits m l) (same_digits m f l))

pub run_rows_long : (n f l : ℕ) → Long n (rows_of_run n f l)
run_rows_long n f l = go (leb f l) refl
  where
    go : (t : Bool) → leb f l ≡ t → Long n (rows_of_run n f l)
    go true e = rw e (straight_rows_long n f l)
    go false e = rw e (round_rows_long n f l)
