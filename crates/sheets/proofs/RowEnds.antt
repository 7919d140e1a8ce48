-- The words of a row with one more symbol at its end.
use Rattle.std.proofs.Common.{◌≡◌, suc, ◌+◌, ◌*◌, ◌^◌, [], ◌∷◌, ◌++◌, length, ap, ◌∙◌, add-one, arith}
use Rattle.std.proofs.lemmas.List.{length_push}
use Rattle.covers.specs.declared.symbol.Symbol.{Symbol}
use Rattle.covers.specs.declared.symbol.Symbol.TheVariants.{Zero, One, Dash}
use Rattle.covers.specs.Symbols.{Symbols}
use Rattle.covers.specs.Words.{value_word, care_word}

longer : (r : Symbols) (s : Symbol) → 2 ^ length (r ++ (s ∷ [])) ≡ 2 * 2 ^ length r
longer r s = ap (λ k. 2 ^ k) (length_push r s ∙ add-one (length r)) ∙ (let n = length r in let h : 2 ^ suc (length r) ≡ 2 * 2 ^ length r = omega arith in h)

pub value_word_push : (r : Symbols) (s : Symbol) → value_word (r ++ (s ∷ [])) ≡ 2 * value_word r + value_word (s ∷ [])
value_word_push [] s = omega arith
value_word_push (Zero ∷ r) s = value_word_push r s
value_word_push (One ∷ r) s = let h = value_word_push r s in let l = longer r s in omega arith
value_word_push (Dash ∷ r) s = value_word_push r s

pub care_word_push : (r : Symbols) (s : Symbol) → care_word (r ++ (s ∷ [])) ≡ 2 * care_word r + care_word (s ∷ [])
care_word_push [] s = omega arith
care_word_push (Zero ∷ r) s = let h = care_word_push r s in let l = longer r s in omega arith
care_word_push (One ∷ r) s = let h = care_word_push r s in let l = longer r s in omega arith
care_word_push (Dash ∷ r) s = care_word_push r s
