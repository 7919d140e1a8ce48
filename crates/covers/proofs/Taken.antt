-- What a list of rows takes, made from others.
use Rattle.std.proofs.Common.{◌≡◌, Bool, true, false, not, ◌&&◌, ◌||◌, List, [], ◌∷◌, ◌++◌, map, sym, refl, ap, ◌∙◌, ap₂}
use Rattle.covers.specs.declared.symbol.Symbol.{Symbol}
use Rattle.covers.specs.declared.symbol.Symbol.TheVariants.{Zero, One, Dash}
use Rattle.covers.specs.Digits.{Digits, mirror}
use Rattle.covers.specs.Symbols.{Symbols, admits, takes, list_takes}
use Rattle.covers.specs.Rules.{swap, dashes, insert, widen, behind}
use Rattle.covers.proofs.Witnesses.{Same}

pub or_false : (t : Bool) → (t || false) ≡ t
or_false true = refl
or_false false = refl

pub and_true : (t : Bool) → t ≡ (t && true)
and_true true = refl
and_true false = refl

pub not_not : (t : Bool) → not (not t) ≡ t
not_not true = refl
not_not false = refl

pub dashes_take : (c u : Digits) → Same c u → takes (dashes c) u ≡ true
dashes_take [] [] s = refl
dashes_take [] (y ∷ u) s = absurd s
dashes_take (x ∷ c) [] s = absurd s
dashes_take (x ∷ c) (y ∷ u) s = dashes_take c u s

pub taken_append : (l k : List Symbols) (u : Digits) → list_takes (l ++ k) u ≡ (list_takes l u || list_takes k u)
taken_append [] k u = refl
taken_append (r ∷ l) k u = go (takes r u) (taken_append l k u)
  where
    go : (t : Bool) → list_takes (l ++ k) u ≡ (list_takes l u || list_takes k u) → (t || list_takes (l ++ k) u) ≡ ((t || list_takes l u) || list_takes k u)
    go true e = refl
    go false e = e

-- one symbol before each row
pub taken_hit : (s : Symbol) (x : Bool) (l : List Symbols) (u : Digits) → admits s x ≡ true → list_takes (map (λ r. s ∷ r) l) (x ∷ u) ≡ list_takes l u
taken_hit s x [] u h = refl
taken_hit s x (r ∷ l) u h = ap₂ ◌||◌ (ap (λ t. t && takes r u) h) (taken_hit s x l u h)

pub taken_miss : (s : Symbol) (x : Bool) (l : List Symbols) (u : Digits) → admits s x ≡ false → list_takes (map (λ r. s ∷ r) l) (x ∷ u) ≡ false
taken_miss s x [] u h = refl
taken_miss s x (r ∷ l) u h = ap₂ ◌||◌ (ap (λ t. t && takes r u) h) (taken_miss s x l u h)

-- two symbols before each row
pub behind_hit : (s t : Symbol) (x y : Bool) (l : List Symbols) (u : Digits) → admits s x ≡ true → admits t y ≡ true → list_takes (behind s t l) (x ∷ y ∷ u) ≡ list_takes l u
behind_hit s t x y [] u h k = refl
behind_hit s t x y (r ∷ l) u h k = ap₂ ◌||◌ (ap (λ p. p && (admits t y && takes r u)) h ∙ ap (λ p. p && takes r u) k) (behind_hit s t x y l u h k)

pub behind_miss : (s t : Symbol) (x y : Bool) (l : List Symbols) (u : Digits) → (admits s x && admits t y) ≡ false → list_takes (behind s t l) (x ∷ y ∷ u) ≡ false
behind_miss s t x y [] u h = refl
behind_miss s t x y (r ∷ l) u h = ap₂ ◌||◌ (go (admits s x) (admits t y) h) (behind_miss s t x y l u h)
  where
    go : (p q : Bool) → (p && q) ≡ false → (p && (q && takes r u)) ≡ false
    go true q e = ap (λ t. t && takes r u) e
    go false q e = refl

-- a symbol put in
pub insert_hit : (s : Symbol) (x y : Bool) (l : List Symbols) (u : Digits) → admits s y ≡ true → list_takes (map (insert s) l) (x ∷ y ∷ u) ≡ list_takes l (x ∷ u)
insert_hit s x y [] u h = refl
insert_hit s x y ([] ∷ l) u h = insert_hit s x y l u h
insert_hit s x y ((t ∷ r) ∷ l) u h = ap₂ ◌||◌ (ap (λ p. admits t x && (p && takes r u)) h) (insert_hit s x y l u h)

pub insert_miss : (s : Symbol) (x y : Bool) (l : List Symbols) (u : Digits) → admits s y ≡ false → list_takes (map (insert s) l) (x ∷ y ∷ u) ≡ false
insert_miss s x y [] u h = refl
insert_miss s x y ([] ∷ l) u h = insert_miss s x y l u h
insert_miss s x y ((t ∷ r) ∷ l) u h = ap₂ ◌||◌ (ap (λ p. admits t x && (p && takes r u)) h ∙ go (admits t x)) (insert_miss s x y l u h)
  where
    go : (p : Bool) → (p && false) ≡ false
    go true = refl
    go false = refl

pub widen_00 : (l : List Symbols) (u : Digits) → list_takes (map widen l) (false ∷ false ∷ u) ≡ list_takes l (false ∷ u)
widen_00 [] u = refl
widen_00 ([] ∷ l) u = widen_00 l u
widen_00 ((Zero ∷ r) ∷ l) u = ap (λ t. takes r u || t) (widen_00 l u)
widen_00 ((One ∷ r) ∷ l) u = widen_00 l u
widen_00 ((Dash ∷ r) ∷ l) u = ap (λ t. takes r u || t) (widen_00 l u)

pub widen_11 : (l : List Symbols) (u : Digits) → list_takes (map widen l) (true ∷ true ∷ u) ≡ list_takes l (true ∷ u)
widen_11 [] u = refl
widen_11 ([] ∷ l) u = widen_11 l u
widen_11 ((Zero ∷ r) ∷ l) u = widen_11 l u
widen_11 ((One ∷ r) ∷ l) u = ap (λ t. takes r u || t) (widen_11 l u)
widen_11 ((Dash ∷ r) ∷ l) u = ap (λ t. takes r u || t) (widen_11 l u)

or_swap : (p q s : Bool) → (p || (q || s)) ≡ (q || (p || s))
or_swap true true s = refl
or_swap true false s = refl
or_swap false q s = refl

or_assoc : (p q s : Bool) → (p || (q || s)) ≡ ((p || q) || s)
or_assoc true q s = refl
or_assoc false q s = refl

or_dup : (p q s : Bool) → (p || (q || s)) ≡ ((p || q) || (p || s))
or_dup true q s = refl
or_dup false q s = or_assoc false q s

pub widen_10 : (l : List Symbols) (u : Digits) → list_takes (map widen l) (true ∷ false ∷ u) ≡ (list_takes l (false ∷ u) || list_takes l (true ∷ u))
widen_10 [] u = refl
widen_10 ([] ∷ l) u = widen_10 l u
widen_10 ((Zero ∷ r) ∷ l) u = ap (λ t. takes r u || t) (widen_10 l u) ∙ or_assoc (takes r u) (list_takes l (false ∷ u)) (list_takes l (true ∷ u))
widen_10 ((One ∷ r) ∷ l) u = ap (λ t. takes r u || t) (widen_10 l u) ∙ or_swap (takes r u) (list_takes l (false ∷ u)) (list_takes l (true ∷ u))
widen_10 ((Dash ∷ r) ∷ l) u = ap (λ t. takes r u || t) (widen_10 l u) ∙ or_dup (takes r u) (list_takes l (false ∷ u)) (list_takes l (true ∷ u))

-- the mirror
pub admits_swap : (s : Symbol) (x : Bool) → admits (swap s) x ≡ admits s (not x)
admits_swap Zero x = sym (not_not x)
admits_swap One x = refl
admits_swap Dash x = refl

takes_swap : (r : Symbols) (u : Digits) → takes (map swap r) u ≡ takes r (mirror u)
takes_swap [] [] = refl
takes_swap [] (x ∷ u) = refl
takes_swap (s ∷ r) [] = refl
takes_swap (s ∷ r) (x ∷ u) = ap₂ ◌&&◌ (admits_swap s x) (takes_swap r u)

pub taken_swap : (l : List Symbols) (u : Digits) → list_takes (map (map swap) l) u ≡ list_takes l (mirror u)
taken_swap [] u = refl
taken_swap (r ∷ l) u = ap₂ ◌||◌ (takes_swap r u) (taken_swap l u)
