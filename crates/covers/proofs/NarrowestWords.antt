-- The narrowest row of two numbers as words.
use Rattle.std.proofs.Common.{◌≡◌, ℕ, zero, suc, ◌-◌, ◌/◌, ◌%◌, ◌^◌, ◌<◌, Bool, true, false, cond, not, ◌&&◌, eqb, ◌∷◌, sym, refl, ap, ◌∙◌, le_of_suc-le-suc, not-suc-le-zero, mod-lt, zero-lt-suc}
use lib.Bits.{bit_and, bit_xor, xor_shr, xor_mod, xor_lt}
use Rattle.covers.specs.declared.symbol.Symbol.TheVariants.{Zero, One, Dash}
use Rattle.covers.specs.Digits.{Digits, digit, digits, mirror}
use Rattle.covers.specs.Symbols.{Symbols, takes}
use Rattle.covers.specs.Words.{symbols}
use Rattle.covers.specs.Rivals.{narrowest}
use Rattle.covers.proofs.Witnesses.{mix_left, mix_right}
use Rattle.covers.proofs.Numbers.{same_digits}
use Rattle.covers.proofs.Equations.{mirror_digits}
use Rattle.covers.proofs.RowWords.{digit_and}
use Rattle.covers.proofs.Narrowest.{narrowest_takes, takes_narrowest}
use Rattle.covers.proofs.LowerBound.{mix_takes}

-- the digits of an exclusive or
abbrev differ : Bool → Bool → Bool
differ x y = cond x (not y) y

xor_of_bits : (a b : ℕ) → a < 2 → b < 2 → eqb (bit_xor a b) 1 ≡ differ (eqb a 1) (eqb b 1)
xor_of_bits zero b ha hb = refl
xor_of_bits (suc zero) zero ha hb = refl
xor_of_bits (suc zero) (suc zero) ha hb = refl
xor_of_bits (suc zero) (suc (suc b)) ha hb = absurd (not-suc-le-zero (le_of_suc-le-suc (le_of_suc-le-suc hb)))
xor_of_bits (suc (suc a)) b ha hb = absurd (not-suc-le-zero (le_of_suc-le-suc (le_of_suc-le-suc ha)))

pub digit_xor : (p x y : ℕ) → digit p (bit_xor x y) ≡ differ (digit p x) (digit p y)
digit_xor p x y =
    ap (λ k. eqb (k % 2) 1) (xor_shr x y p) ∙ ap (λ k. eqb k 1) (xor_mod (x / 2 ^ p) (y / 2 ^ p) 1) ∙
    xor_of_bits (x / 2 ^ p % 2) (y / 2 ^ p % 2) (mod-lt (x / 2 ^ p) (zero-lt-suc 1)) (mod-lt (y / 2 ^ p) (zero-lt-suc 1))

-- the symbol at a place where the care mask has a 1 just if the digits agree
narrow_symbol : (x y v c : Bool) → c ≡ not (differ x y) → v ≡ (x && c) → (u w : Digits) (r : Symbols) → r ≡ narrowest u w →
    cond c (cond v One Zero) Dash ∷ r ≡ narrowest (x ∷ u) (y ∷ w)
narrow_symbol true true v c k l u w r e = rw (l, k) (ap (λ q. One ∷ q) e)
narrow_symbol true false v c k l u w r e = rw k (ap (λ q. Dash ∷ q) e)
narrow_symbol false true v c k l u w r e = rw k (ap (λ q. Dash ∷ q) e)
narrow_symbol false false v c k l u w r e = rw (l, k) (ap (λ q. Zero ∷ q) e)

-- of a care mask with the mirrored digits of the exclusive or
narrow_words : (m a b care : ℕ) → digits m care ≡ mirror (digits m (bit_xor a b)) → symbols m (bit_and a care) care ≡ narrowest (digits m a) (digits m b)
narrow_words zero a b care e = refl
narrow_words (suc m) a b care e =
    narrow_symbol (digit m a) (digit m b) (digit m (bit_and a care)) (digit m care) (head e ∙ ap not (digit_xor m a b)) (digit_and m a care)
    (digits m a) (digits m b) (symbols m (bit_and a care) care) (narrow_words m a b care (tail e))
  where
    head : digit m care ∷ digits m care ≡ not (digit m (bit_xor a b)) ∷ mirror (digits m (bit_xor a b)) → digit m care ≡ not (digit m (bit_xor a b))
    head k = cc

    tail : digit m care ∷ digits m care ≡ not (digit m (bit_xor a b)) ∷ mirror (digits m (bit_xor a b)) → digits m care ≡ mirror (digits m (bit_xor a b))
    tail k = cc

-- care where the numbers agree, and the digits of one of them
pub narrowest_words : (n a b : ℕ) → a < 2 ^ n → b < 2 ^ n → symbols n (bit_and a (2 ^ n - 1 - bit_xor a b)) (2 ^ n - 1 - bit_xor a b) ≡ narrowest (digits n a) (digits n b)
narrowest_words n a b ha hb = narrow_words n a b (2 ^ n - 1 - bit_xor a b) (sym (mirror_digits n (bit_xor a b) (xor_lt n a b ha hb)))

-- it takes both, and nothing that a row which takes both does not
pub narrowest_both : (n a b : ℕ) → (takes (narrowest (digits n a) (digits n b)) (digits n a) ≡ true) × (takes (narrowest (digits n a) (digits n b)) (digits n b) ≡ true)
narrowest_both n a b =
    let s = same_digits n a b in
    (narrowest_takes (digits n a) (digits n b) (digits n a) (mix_left (digits n a) (digits n b) s), narrowest_takes (digits n a) (digits n b) (digits n b) (mix_right (digits n a) (digits n b) s))

pub narrowest_least : (n a b : ℕ) (other : Symbols) → takes other (digits n a) ≡ true → takes other (digits n b) ≡ true →
    (x : ℕ) → takes (narrowest (digits n a) (digits n b)) (digits n x) ≡ true → takes other (digits n x) ≡ true
narrowest_least n a b other p q x h =
    mix_takes other (digits n a) (digits n b) (digits n x) p q (takes_narrowest (digits n a) (digits n b) (digits n x) (same_digits n a b) h)
