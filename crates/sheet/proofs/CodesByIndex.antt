-- What the codes of a body say, one index after the other.
use Rattle.std.proofs.Common.{◌≡◌, ℕ, zero, suc, ◌+◌, ◌*◌, ◌≤◌, Bool, true, false, not, ◌&&◌, ◌||◌, eqb, [], ◌∷◌, length, take, drop, sym, refl, ap, ◌∙◌, ap₂, arith}
use Rattle.std.specs.List.{list_any, list_all, range_with_len}
use Rattle.std.specs.Option.{is_none, unwrap_or}
use Rattle.std.proofs.lemmas.Bool.{le-ltb, ne_eqb}
use Rattle.std.proofs.lemmas.List.{at_drop_all}
use Rattle.covers.specs.declared.symbol.Symbol.TheVariants.{Dash}
use Rattle.covers.specs.Digits.{Digits, value, all_zeros}
use Rattle.sheets.specs.Reading.{code_at, unknown_code, symbol_coded}
use Rattle.sheets.proofs.Codes.{twice_suc}
use Rattle.sheets.proofs.Bodies.{two_more}
use Rattle.sheet.specs.Reading.{symbol_if_coded}

-- two bits are no symbol's code where both are ones, and are zeros where none is
unknown_two : (x y : Bool) → is_none (symbol_if_coded (value (x ∷ (y ∷ [])))) ≡ (x && y)
unfolding value
unknown_two true true = refl
unknown_two true false = refl
unknown_two false true = refl
unknown_two false false = refl

zeros_two : (x y rest : Bool) → (eqb (value (x ∷ (y ∷ []))) 0 && rest) ≡ (not x && (not y && rest))
unfolding value
zeros_two true true rest = refl
zeros_two true false rest = refl
zeros_two false true rest = refl
zeros_two false false rest = refl

pub unknown_by_index : (u : Digits) (n j : ℕ) → 2 * j + 2 * n ≤ length u →
    list_any (λ k. is_none (symbol_if_coded (code_at u k))) (range_with_len j n) ≡ unknown_code (take (2 * n) (drop (2 * j) u))
unknown_by_index u zero j h = refl
unknown_by_index u (suc n) j h =
    let t = two_more u j (omega arith) in
    ap₂ (λ (a b : Bool). a || b) (ap (λ k. is_none (symbol_if_coded k)) t.number ∙ unknown_two t.high t.low) (unknown_by_index u n (j + 1) (omega arith)) ∙
    sym (ap₂ (λ (k : ℕ) (v : Digits). unknown_code (take k v)) (twice_suc n) t.bits)

pub zeros_by_index : (u : Digits) (n j : ℕ) → 2 * j + 2 * n ≡ length u → list_all (λ k. eqb (code_at u k) 0) (range_with_len j n) ≡ all_zeros (drop (2 * j) u)
zeros_by_index u zero j h = sym (at_drop_all all_zeros u (2 * j) (omega arith))
zeros_by_index u (suc n) j h =
    let t = two_more u j (omega arith) in
    ap₂ (λ (a b : Bool). a && b) (ap (λ k. eqb k 0) t.number) (zeros_by_index u n (j + 1) (omega arith)) ∙ zeros_two t.high t.low (all_zeros (drop (2 * (j + 1)) u)) ∙ sym (ap all_zeros t.bits)

-- what is no symbol's code counts as a dash
pub symbol_or_dash : (k : ℕ) → unwrap_or (symbol_if_coded k) Dash ≡ symbol_coded k
symbol_or_dash zero = refl
symbol_or_dash (suc zero) = refl
symbol_or_dash (suc (suc zero)) = refl
symbol_or_dash (suc (suc (suc k))) =
    let n = suc (suc (suc k)) in
    rw (le-ltb n 3 (omega arith), ne_eqb n 0 (λ z. omega arith), ne_eqb n 1 (λ z. omega arith)) refl
