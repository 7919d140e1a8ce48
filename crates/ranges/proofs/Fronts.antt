-- Rows behind a front, and the front with a digit more.
use Rattle.std.proofs.Common.{◌≡◌, ℕ, zero, suc, ◌+◌, ◌^◌, Bool, true, false, cond, List, [], ◌∷◌, map, length, refl, ap, ◌∙◌, subst, ap₂, add-zero, arith}
use Rattle.covers.specs.declared.symbol.Symbol.{Symbol}
use Rattle.covers.specs.declared.symbol.Symbol.TheVariants.{Zero, One}
use Rattle.covers.specs.Symbols.{Symbols}
use Rattle.covers.specs.Words.{value_word, care_word}
use Rattle.covers.specs.RuleEquations.{plain}
use Rattle.covers.proofs.RowLengths.{Long}
use Rattle.rows.specs.declared.row_words.RowWords.{RowWords}
use Rattle.ranges.specs.declared.front.Front.{Front}
use Rattle.ranges.specs.Building.{behind_words, WithDigit, Extended}

pub same_words : (a b : RowWords) → a.value ≡ b.value → a.care ≡ b.care → a ≡ b
same_words a b p q = ap₂ {C = RowWords} (λ v c. record { value = v; care = c }) p q

-- the symbol of a digit
abbrev pub symbol : Bool → Symbol
symbol d = cond d One Zero

pub extended_row : (front more : RowWords) (m : ℕ) (d : Bool) → WithDigit front more m d → (r : Symbols) → length r ≡ m →
    behind_words front (symbol d ∷ r) ≡ behind_words more r
extended_row front more m true x r e =
    same_words _ _
    (let h = x.value in let p = ap (λ k. 2 ^ k) e in omega arith)
    (let h = x.care in let p = ap (λ k. 2 ^ k) e in omega arith)
extended_row front more m false x r e =
    same_words _ _
    (let h = x.value in omega arith)
    (let h = x.care in let p = ap (λ k. 2 ^ k) e in omega arith)

pub extended_rows : (front more : RowWords) (m : ℕ) (d : Bool) → WithDigit front more m d → (rows : List Symbols) → Long m rows →
    map (behind_words front) (map (λ r. symbol d ∷ r) rows) ≡ map (behind_words more) rows
extended_rows front more m d x [] h = refl
extended_rows front more m d x (r ∷ rows) h =
    ap₂ (λ (w : RowWords) (l : List RowWords). w ∷ l) (extended_row front more m d x r h.0) (extended_rows front more m d x rows h.1)

-- dashes add nothing
pub plain_value : (m : ℕ) → value_word (plain m) ≡ 0
plain_value zero = refl
plain_value (suc m) = plain_value m

pub plain_care : (m : ℕ) → care_word (plain m) ≡ 0
plain_care zero = refl
plain_care (suc m) = plain_care m

pub plain_behind : (front : RowWords) (m : ℕ) → behind_words front (plain m) ≡ front
plain_behind front m =
    same_words (behind_words front (plain m)) front
    (ap (λ k. front.value + k) (plain_value m) ∙ add-zero front.value)
    (ap (λ k. front.care + k) (plain_care m) ∙ add-zero front.care)

pub plain_long : (m : ℕ) → length (plain m) ≡ m
plain_long zero = refl
plain_long (suc m) = ap suc (plain_long m)

-- a digit and dashes behind a front
pub digit_behind : (front more : RowWords) (m : ℕ) (d : Bool) → WithDigit front more m d → behind_words front (symbol d ∷ plain m) ≡ more
digit_behind front more m d x = extended_row front more m d x (plain m) (plain_long m) ∙ plain_behind more m

-- where the digit stands, by the free places of the front
pub at_place : {front more : Front} {d : Bool} → Extended front more d → (m : ℕ) → front.places ≡ suc m → WithDigit front.words more.words m d
at_place {front} {more} {d} x m e =
    let p = x.places in
    let same : more.places ≡ m = omega arith in
    subst (λ k. WithDigit front.words more.words k d) same x.digit
