use Rattle.std.proofs.Common.{◌≡◌, ℕ, ◌-◌, ◌^◌, ◌<◌, true, sym, ap, ◌∙◌, subst, ap₂, arith, pow_pos}
use lib.Bits.{bit_and, bit_xor, xor_lt}
use Rattle.std.proofs.lemmas.Bool.{lt-ltb}
use Rattle.covers.specs.Words.{symbols}
use Rattle.covers.proofs.NarrowestWords.{narrowest_words, narrowest_both, narrowest_least}
use Rattle.rows.specs.NarrowestRows.{TakesBoth, TakesLeast}
use Rattle.rows.specs.Widths.{in_width}
use Rattle.rows.specs.Widths.{places_of}
use Rattle.rows.proofs.narrowest.narrowest_row.Goals as goal

pub overflow_sub-care-2 : goal.overflow_sub-care-2
overflow_sub-care-2 c =
    let n = places_of c.args.width in
    let lim = c.limit-limit.ensures.value in
    let x = xor_lt (places_of c.args.width) c.args.first c.args.second (omega arith) (omega arith) in
    omega arith

-- both numbers are of the width
both_in : (n a b : ℕ) → a < 2 ^ n → b < 2 ^ n → in_width n a b ≡ true
both_in n a b ha hb = rw (lt-ltb a (2 ^ n) ha, lt-ltb b (2 ^ n) hb)

pub returns : goal.returns
returns c =
    let n = places_of c.args.width in
    let a = c.args.first in
    let b = c.args.second in
    let lim = c.limit-limit.ensures.value in
    let ha : a < 2 ^ n = omega arith in
    let hb : b < 2 ^ n = omega arith in
    let p = pow_pos (places_of c.args.width) in
    let mask = ap (λ (k : ℕ). k - 1 - bit_xor c.args.first c.args.second) lim in
    let care = c.new.ensures.care ∙ mask in
    let value = c.new.ensures.value ∙ ap (bit_and a) mask in
    let is = ap₂ (symbols n) value care ∙ narrowest_words n a b ha hb in
    record {
      refusal = both_in n a b ha hb;
      symbols = is;
      of_width = omega arith;
      takes_both = subst (TakesBoth n a b) (sym is) (narrowest_both n a b);
      narrowest = subst (TakesLeast n a b) (sym is) (λ other t x h. narrowest_least n a b other t.0 t.1 x h);
    }
