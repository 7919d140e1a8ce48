-- What a flip and a turn do at each place.
use Rattle.std.proofs.Common.{◌≡◌, ℕ, zero, suc, ◌-◌, ◌*◌, ◌+◌, ◌/◌, ◌%◌, ◌^◌, Bool, true, false, cond, not, ◌&&◌, eqb, ltb, sym, refl, ap, ◌∙◌, ap₂, bit_and, mod-lt, add-one, arith, pow_pos, pow_mono}
use Rattle.std.proofs.Math.Dec.{leb-suc-zero, leb-suc-suc}
use Rattle.std.proofs.lemmas.Nat.{shr-shr}
use Rattle.std.proofs.lemmas.Bool.{ltb-true, ltb-false, lt-ltb}
use Rattle.covers.specs.declared.symbol.Symbol.{Symbol}
use Rattle.covers.specs.declared.symbol.Symbol.TheVariants.{Zero, One, Dash}
use Rattle.covers.specs.Digits.{digit}
use Rattle.covers.proofs.Numbers.{digit_low}
use Rattle.covers.proofs.RowWords.{digit_and}
use Rattle.rows.specs.declared.row.Row.{Row}
use Rattle.covers.proofs.Digitwise.{digit_xor, digit_beyond}
use Rattle.layers.specs.Flips.{flipped, is_marked, other_symbol, FlipsDigits, FlipsSymbols}
use Rattle.layers.specs.Turns.{turned, TurnsDigits, TurnsSymbols}
use Rattle.layers.proofs.Turning.{turned_none, turned_more}

abbrev symbol_of : Bool → Bool → Symbol
symbol_of v c = cond c (cond v One Zero) Dash

-- the digits of the last n places of a mask
digit_marked : (mask n place : ℕ) → digit place (mask % 2 ^ n) ≡ is_marked mask n place
digit_marked mask n place = go (ltb place n) refl
  where
    go : (t : Bool) → ltb place n ≡ t → digit place (mask % 2 ^ n) ≡ (t && digit place mask)
    go true t =
        let l = ltb-true place n t in
        let e : n ≡ suc (n - suc place) + place = omega arith in
        ap (λ k. digit place (mask % 2 ^ k)) e ∙ digit_low place (n - suc place) mask
    go false t =
        let m = pow_mono {i = n} {j = place} (ltb-false place n t) in
        let l = mod-lt mask (pow_pos n) in
        digit_beyond place (mask % 2 ^ n) (omega arith)

pub flips_digits : (mask n number : ℕ) → FlipsDigits mask n number (flipped mask n number)
flips_digits mask n number place =
    digit_xor place number (mask % 2 ^ n) ∙
    ap (λ b. cond b (not (digit place number)) (digit place number)) (digit_marked mask n place)

pub flips_symbols : (mask n : ℕ) (row result : Row) → result.value ≡ bit_and (flipped mask n row.value) row.care → result.care ≡ row.care → FlipsSymbols mask n row result
flips_symbols mask n row result value care place =
    ap₂ (λ v c. symbol_of (digit place v) (digit place c)) value care ∙
    ap (λ v. symbol_of v (digit place row.care)) (digit_and place (flipped mask n row.value) row.care) ∙
    ap (λ v. symbol_of (v && digit place row.care) (digit place row.care)) (flips_digits mask n row.value place) ∙
    go (is_marked mask n place) (digit place row.value) (digit place row.care)
  where
    go : (m v c : Bool) → symbol_of (cond m (not v) v && c) c ≡ cond m (other_symbol (symbol_of v c)) (symbol_of v c)
    go true true true = refl
    go true false true = refl
    go false true true = refl
    go false false true = refl
    go true v false = refl
    go false v false = refl

-- with one place more its digit comes last
turned_suc : (m x : ℕ) → turned (suc m) x ≡ turned m x * 2 + x / 2 ^ m % 2
turned_suc m x = ap (λ k. turned k x) (sym (add-one m)) ∙ turned_more m x

pub turns_digits : (n number : ℕ) → TurnsDigits n number (turned n number)
turns_digits zero x place =
    ap (digit place) (turned_none x) ∙ digit_beyond place 0 (pow_pos place) ∙
    sym (ap (λ b. cond b (digit (0 - 1 - place) x) false) (leb-suc-zero place))
turns_digits (suc m) x zero =
    let more = turned_suc m x in
    let last : turned (suc m) x / 2 ^ 0 % 2 ≡ x / 2 ^ m % 2 = omega arith in
    let same : m ≡ suc m - 1 - 0 = omega arith in
    ap (λ k. eqb k 1) last ∙ ap (λ k. digit k x) same ∙
    sym (ap (λ b. cond b (digit (suc m - 1 - 0) x) false) (lt-ltb 0 (suc m) (omega arith)))
turns_digits (suc m) x (suc place) =
    let more = turned_suc m x in
    let low = mod-lt (x / 2 ^ m) (pow_pos 1) in
    let before : turned (suc m) x / 2 ≡ turned m x = omega arith in
    let whole : suc place ≡ 1 + place = omega arith in
    let same : m - 1 - place ≡ suc m - 1 - suc place = omega arith in
    ap (λ k. digit k (turned (suc m) x)) whole ∙
    ap (λ k. eqb (k % 2) 1) (sym (shr-shr (turned (suc m) x) 1 place) ∙ ap (λ k. k / 2 ^ place) before) ∙
    turns_digits m x place ∙ ap₂ (λ b k. cond b (digit k x) false) (sym (leb-suc-suc (suc place) m)) same

pub turns_symbols : (n : ℕ) (row result : Row) → result.value ≡ bit_and (turned n row.value) (turned n row.care) → result.care ≡ turned n row.care → TurnsSymbols n row result
turns_symbols n row result value care place =
    ap₂ (λ v c. symbol_of (digit place v) (digit place c)) value care ∙
    ap (λ v. symbol_of v (digit place (turned n row.care))) (digit_and place (turned n row.value) (turned n row.care)) ∙
    ap₂ (λ v c. symbol_of (v && c) c) (turns_digits n row.value place) (turns_digits n row.care place) ∙
    go (ltb place n) (digit (n - 1 - place) row.value) (digit (n - 1 - place) row.care)
  where
    go : (t v c : Bool) → symbol_of (cond t v false && cond t c false) (cond t c false) ≡ cond t (symbol_of v c) Dash
    go true true true = refl
    go true false true = refl
    go true v false = refl
    go false v c = refl
