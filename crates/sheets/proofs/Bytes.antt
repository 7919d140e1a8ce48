-- Bits as bytes, there and back.
use Rattle.std.proofs.Common.{◌≡◌, ℕ, zero, suc, ◌+◌, ◌*◌, ◌<◌, Bool, true, false, List, [], ◌∷◌, ◌++◌, length, get_or, take, drop, sym, refl, ap, ◌∙◌, ap₂, suc-add, zero-add, arith}
use Rattle.std.specs.List.{AllByRecursion}
use Rattle.std.proofs.lemmas.List.{length-append, take_at, drop_at, drop-drop}
use Rattle.std.proofs.lemmas.Bool.{false≢true}
use Rattle.covers.specs.Digits.{Digits, digits, value, all_zeros}
use Rattle.covers.proofs.Numbers.{digits_value, value_digits, length_digits}
use Rattle.sheets.specs.Format.{filled, bytes}
use Rattle.sheets.specs.Reading.{bits_of}

pub length_filled : (n : ℕ) (u : Digits) → length (filled n u) ≡ n
length_filled zero u = refl
length_filled (suc n) [] = ap suc (length_filled n [])
length_filled (suc n) (x ∷ u) = ap suc (length_filled n u)

pub filled_split : (m n : ℕ) (u : Digits) → filled (m + n) u ≡ filled m u ++ filled n (drop m u)
filled_split zero n u = ap (λ k. filled k u) (zero-add n)
filled_split (suc m) n [] = ap (λ k. filled k []) (suc-add m n) ∙ ap (λ r. false ∷ r) (filled_split m n [] ∙ ap (λ r. filled m [] ++ filled n r) (none m))
  where
    none : (m : ℕ) → drop {A = Bool} m [] ≡ []
    none zero = refl
    none (suc m) = refl
filled_split (suc m) n (x ∷ u) = ap (λ k. filled k (x ∷ u)) (suc-add m n) ∙ ap (λ r. x ∷ r) (filled_split m n u)

pub filled_more : (u : Digits) (n : ℕ) → filled (length u + n) u ≡ u ++ filled n []
filled_more [] n = ap (λ k. filled k []) (zero-add n)
filled_more (x ∷ u) n = ap (λ k. filled k (x ∷ u)) (suc-add (length u) n) ∙ ap (λ r. x ∷ r) (filled_more u n)

pub zeros_filled : (n : ℕ) → all_zeros (filled n []) ≡ true
zeros_filled zero = refl
zeros_filled (suc n) = zeros_filled n

pub filled_zeros : (u : Digits) → all_zeros u ≡ true → u ≡ filled (length u) []
filled_zeros [] h = refl
filled_zeros (false ∷ u) h = ap (λ r. false ∷ r) (filled_zeros u h)
filled_zeros (true ∷ u) h = absurd (false≢true h)

pub length_bytes : (n : ℕ) (u : Digits) → length (bytes n u) ≡ n
unfolding bytes
length_bytes zero u = refl
length_bytes (suc n) u = ap suc (length_bytes n (drop 8 u))

pub bits_of_bytes : (n : ℕ) (u : Digits) → bits_of (bytes n u) ≡ filled (8 * n) u
unfolding bytes bits_of
bits_of_bytes zero u = refl
bits_of_bytes (suc n) u =
    let e : 8 * suc n ≡ 8 + 8 * n = omega arith in
    ap₂ (λ (a b : Digits). a ++ b) (ap (λ k. digits k (value (filled 8 u))) (sym (length_filled 8 u)) ∙ digits_value (filled 8 u)) (bits_of_bytes n (drop 8 u)) ∙
    sym (ap (λ k. filled k u) e ∙ filled_split 8 (8 * n) u)

pub length_bits : (sheet : List ℕ) → length (bits_of sheet) ≡ 8 * length sheet
unfolding bits_of
length_bits [] = refl
length_bits (b ∷ sheet) =
    let h = length_bits sheet in
    let l = length-append (digits 8 b) (bits_of sheet) in
    let e : 8 * suc (length sheet) ≡ 8 + 8 * length sheet = omega arith in
    omega arith

-- bytes are those of the bits that they have
pub bytes_of_bits : (sheet : List ℕ) (u : Digits) → AllByRecursion (λ b. b < 256) sheet → bits_of sheet ≡ filled (8 * length sheet) u → bytes (length sheet) u ≡ sheet
unfolding bytes bits_of
bytes_of_bits [] u fit e = refl
bytes_of_bits (b ∷ sheet) u fit e =
    let k : 8 * suc (length sheet) ≡ 8 + 8 * length sheet = omega arith in
    let s = e ∙ ap (λ m. filled m u) k ∙ filled_split 8 (8 * length sheet) u in
    let first : digits 8 b ≡ filled 8 u = sym (take_at (digits 8 b) (bits_of sheet) 8 (length_digits 8 b)) ∙ ap (take 8) s ∙ take_at (filled 8 u) (filled (8 * length sheet) (drop 8 u)) 8 (length_filled 8 u) in
    let rest : bits_of sheet ≡ filled (8 * length sheet) (drop 8 u) = sym (drop_at (digits 8 b) (bits_of sheet) 8 (length_digits 8 b)) ∙ ap (drop 8) s ∙ drop_at (filled 8 u) (filled (8 * length sheet) (drop 8 u)) 8 (length_filled 8 u) in
    ap₂ (λ (x : ℕ) (y : List ℕ). x ∷ y) (ap value (sym first) ∙ value_digits 8 b fit.0) (bytes_of_bits sheet (drop 8 u) fit.1 rest)

pub byte_at : (n : ℕ) (u : Digits) (k : ℕ) → k < n → get_or (bytes n u) k 0 ≡ value (filled 8 (drop (8 * k) u))
unfolding bytes
byte_at zero u k h = absurd (omega arith)
byte_at (suc n) u zero h = refl
byte_at (suc n) u (suc k) h =
    let e : 8 + 8 * k ≡ 8 * suc k = omega arith in
    byte_at n (drop 8 u) k (omega arith) ∙ ap (λ v. value (filled 8 v)) (drop-drop (8 * k) 8 u ∙ ap (λ m. drop m u) e)
