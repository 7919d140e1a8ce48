-- Symbols as codes of two bits, there and back.
use Rattle.std.proofs.Common.{◌≡◌, ℕ, zero, suc, ◌+◌, ◌*◌, ◌^◌, ◌<◌, Bool, true, false, [], ◌∷◌, ◌++◌, length, get_or, take, drop, refl, ap, ◌∙◌, ap₂, arith}
use Rattle.std.specs.List.{flat_map}
use Rattle.std.proofs.lemmas.List.{length-append}
use Rattle.std.proofs.lemmas.Bool.{true≢false}
use Rattle.covers.specs.declared.symbol.Symbol.{Symbol}
use Rattle.covers.specs.declared.symbol.Symbol.TheVariants.{Zero, One, Dash}
use Rattle.covers.specs.Digits.{Digits, value}
use Rattle.covers.specs.Symbols.{Symbols}
use Rattle.sheets.specs.Format.{code, filled}
use Rattle.sheets.specs.Reading.{unknown_code, symbol_of, symbols_of}
use Rattle.sheets.proofs.Values.{value_append}

-- twice as much, as two steps
pub twice_suc : (n : ℕ) → 2 * suc n ≡ suc (suc (2 * n))
twice_suc n = omega arith

pub length_code : (s : Symbol) → length (code s) ≡ 2
length_code Zero = refl
length_code One = refl
length_code Dash = refl

pub length_codes : (r : Symbols) → length (flat_map code r) ≡ 2 * length r
length_codes [] = refl
length_codes (s ∷ r) =
    let h = length_codes r in
    let l = length-append (code s) (flat_map code r) in
    let k = length_code s in
    let e = twice_suc (length r) in
    omega arith

pub codes_symbols : (r : Symbols) → symbols_of (flat_map code r) ≡ r
codes_symbols [] = refl
codes_symbols (Zero ∷ r) = ap (λ q. Zero ∷ q) (codes_symbols r)
codes_symbols (One ∷ r) = ap (λ q. One ∷ q) (codes_symbols r)
codes_symbols (Dash ∷ r) = ap (λ q. Dash ∷ q) (codes_symbols r)

pub codes_known : (r : Symbols) → unknown_code (flat_map code r) ≡ false
codes_known [] = refl
codes_known (Zero ∷ r) = codes_known r
codes_known (One ∷ r) = codes_known r
codes_known (Dash ∷ r) = codes_known r

pub symbols_codes : (n : ℕ) (u : Digits) → length u ≡ 2 * n → unknown_code u ≡ false → flat_map code (symbols_of u) ≡ u
symbols_codes n [] l h = refl
symbols_codes zero (x ∷ u) l h = absurd (omega arith)
symbols_codes (suc n) (x ∷ []) l h = absurd (let e = twice_suc n in omega arith)
symbols_codes (suc n) (false ∷ (false ∷ u)) l h = ap (λ q. false ∷ (false ∷ q)) (symbols_codes n u (let e = twice_suc n in omega arith) h)
symbols_codes (suc n) (false ∷ (true ∷ u)) l h = ap (λ q. false ∷ (true ∷ q)) (symbols_codes n u (let e = twice_suc n in omega arith) h)
symbols_codes (suc n) (true ∷ (false ∷ u)) l h = ap (λ q. true ∷ (false ∷ q)) (symbols_codes n u (let e = twice_suc n in omega arith) h)
symbols_codes (suc n) (true ∷ (true ∷ u)) l h = absurd (true≢false h)

pub length_symbols_of : (n : ℕ) (u : Digits) → length u ≡ 2 * n → length (symbols_of u) ≡ n
length_symbols_of zero [] l = refl
length_symbols_of (suc n) [] l = absurd (let e = twice_suc n in omega arith)
length_symbols_of zero (x ∷ u) l = absurd (omega arith)
length_symbols_of (suc n) (x ∷ []) l = absurd (let e = twice_suc n in omega arith)
length_symbols_of (suc n) (x ∷ (y ∷ u)) l = ap suc (length_symbols_of n u (let e = twice_suc n in omega arith))

pub drop_codes : (j : ℕ) (r : Symbols) → drop (2 * j) (flat_map code r) ≡ flat_map code (drop j r)
drop_codes zero r = refl
drop_codes (suc j) [] = ap (λ k. drop {A = Bool} k []) (twice_suc j)
drop_codes (suc j) (s ∷ r) = ap (λ k. drop k (code s ++ flat_map code r)) (twice_suc j) ∙ past s ∙ drop_codes j r
  where
    past : (s : Symbol) → drop (suc (suc (2 * j))) (code s ++ flat_map code r) ≡ drop (2 * j) (flat_map code r)
    past Zero = refl
    past One = refl
    past Dash = refl

pub take_symbols_of : (j : ℕ) (u : Digits) → symbols_of (take (2 * j) u) ≡ take j (symbols_of u)
take_symbols_of zero u = refl
take_symbols_of (suc j) [] = ap (λ k. symbols_of (take k [])) (twice_suc j)
take_symbols_of (suc j) (x ∷ []) = ap (λ k. symbols_of (take k (x ∷ []))) (twice_suc j)
take_symbols_of (suc j) (x ∷ (y ∷ u)) = ap (λ k. symbols_of (take k (x ∷ (y ∷ u)))) (twice_suc j) ∙ ap (λ q. symbol_of x y ∷ q) (take_symbols_of j u)

-- the first symbol of eight bits of codes, and the rest
filled_code : (n : ℕ) (s : Symbol) (u : Digits) → filled (suc (suc n)) (code s ++ u) ≡ code s ++ filled n u
filled_code n Zero u = refl
filled_code n One u = refl
filled_code n Dash u = refl

filled_codes_step : (n : ℕ) (r : Symbols) → filled (suc (suc n)) (flat_map code r) ≡ code (get_or r 0 Zero) ++ filled n (flat_map code (drop 1 r))
filled_codes_step n [] = refl
filled_codes_step n (s ∷ r) = filled_code n s (flat_map code r)

-- the byte of the first four symbols
pub byte_of_codes : (r : Symbols) → value (filled 8 (flat_map code r)) ≡ ((value (code (get_or r 0 Zero)) * 4 + value (code (get_or r 1 Zero))) * 4 + value (code (get_or r 2 Zero))) * 4 + value (code (get_or r 3 Zero))
byte_of_codes r = ap value (four r) ∙ four_values (code (get_or r 0 Zero)) (code (get_or r 1 Zero)) (code (get_or r 2 Zero)) (code (get_or r 3 Zero)) (length_code (get_or r 1 Zero)) (length_code (get_or r 2 Zero)) (length_code (get_or r 3 Zero))
  where
    next : (k : ℕ) (r : Symbols) → get_or (drop 1 r) k Zero ≡ get_or r (suc k) Zero
    next k [] = refl
    next k (s ∷ r) = refl

    four : (r : Symbols) → filled 8 (flat_map code r) ≡ code (get_or r 0 Zero) ++ (code (get_or r 1 Zero) ++ (code (get_or r 2 Zero) ++ code (get_or r 3 Zero)))
    four r =
        let r1 = drop 1 r in
        let r2 = drop 1 r1 in
        let r3 = drop 1 r2 in
        let e1 : get_or r1 0 Zero ≡ get_or r 1 Zero = next 0 r in
        let e2 : get_or r2 0 Zero ≡ get_or r 2 Zero = next 0 r1 ∙ next 1 r in
        let e3 : get_or r3 0 Zero ≡ get_or r 3 Zero = next 0 r2 ∙ next 1 r1 ∙ next 2 r in
        filled_codes_step 6 r ∙ ap (λ u. code (get_or r 0 Zero) ++ u) (
        filled_codes_step 4 r1 ∙ ap₂ (λ (s : Symbol) (u : Digits). code s ++ u) e1 (
        filled_codes_step 2 r2 ∙ ap₂ (λ (s : Symbol) (u : Digits). code s ++ u) e2 (
        filled_codes_step 0 r3 ∙ last (get_or r3 0 Zero) ∙ ap code e3)))
      where
        last : (s : Symbol) → code s ++ [] ≡ code s
        last Zero = refl
        last One = refl
        last Dash = refl

    four_values : (a b c d : Digits) → length b ≡ 2 → length c ≡ 2 → length d ≡ 2 → value (a ++ (b ++ (c ++ d))) ≡ ((value a * 4 + value b) * 4 + value c) * 4 + value d
    four_values a b c d hb hc hd =
        let v1 = value_append a (b ++ (c ++ d)) in
        let v2 = value_append b (c ++ d) in
        let v3 = value_append c d in
        let l2 : length (b ++ (c ++ d)) ≡ 6 = let p = length-append b (c ++ d) in let q = length-append c d in omega arith in
        let l3 : length (c ++ d) ≡ 4 = let q = length-append c d in omega arith in
        let p1 : value a * 2 ^ length (b ++ (c ++ d)) ≡ value a * 64 = ap (λ k. value a * 2 ^ k) l2 in
        let p2 : value b * 2 ^ length (c ++ d) ≡ value b * 16 = ap (λ k. value b * 2 ^ k) l3 in
        let p3 : value c * 2 ^ length d ≡ value c * 4 = ap (λ k. value c * 2 ^ k) hd in
        omega arith
