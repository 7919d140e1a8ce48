-- A sheet that was opened: two bytes of header, and the body.
use Rattle.std.proofs.Common.{◌≡◌, ℕ, suc, ◌+◌, ◌-◌, ◌*◌, ◌/◌, ◌%◌, ◌<◌, ◌≤◌, min, List, [], ◌∷◌, ◌++◌, map, length, get_or, take, drop, sym, refl, ap, ◌∙◌, ap₂, suc-mul, arith}
use Rattle.std.specs.List.{AllByRecursion}
use Rattle.std.proofs.lemmas.Nat.{mul-le}
use Rattle.std.proofs.lemmas.List.{take_all, take-take, drop-take, get_or-map, length-map}
use Rattle.covers.specs.Digits.{Digits, digits}
use Rattle.covers.specs.Symbols.{Symbols}
use Rattle.sheets.specs.Format.{size_of_sheet, Sheet}
use Rattle.sheets.specs.Reading.{bits_of, width_field, count_field, symbol_bits, zero_bits, symbols_of}
use Rattle.sheets.proofs.Codes.{take_symbols_of}
use Rattle.sheets.proofs.Cuts.{cut, cut_at, length_cut}
use Rattle.sheets.proofs.Headers as headers
use Rattle.sheets.proofs.Readings.{rows_in, sheet_says}
use Rattle.rows.specs.Memory.{words_of}
use Rattle.sheet.proofs.Rows.{no_words}

pub all_bytes : (sheet : List ℕ) → ((i : ℕ) → get_or sheet i 0 < 256) → AllByRecursion (λ b. b < 256) sheet
all_bytes [] fits = tt
all_bytes (b ∷ sheet) fits = (fits 0, all_bytes sheet (λ i. fits (suc i)))

-- what the whole says, by the header's numbers and the body, which should have so many bytes
pub record Opened (sheet body : List ℕ) (places count needed : ℕ) : Type 0 where
  pub two : 2 ≤ length sheet
  pub width_is : width_field sheet ≡ places
  pub count_is : count_field sheet ≡ count
  pub size_is : size_of_sheet (width_field sheet) (count_field sheet) ≡ 2 + needed
  pub length_is : length sheet ≡ 2 + length body
  pub symbols_are : symbol_bits sheet ≡ take (2 * (count * places)) (bits_of body)
  pub zeros_are : zero_bits sheet ≡ digits 4 (get_or sheet 1 0) ++ drop (2 * (count * places)) (bits_of body)

needed_size : (places count needed : ℕ) → needed ≡ count * places / 4 + min 1 (count * places % 4) → size_of_sheet places count ≡ 2 + needed
unfolding size_of_sheet
needed_size places count needed h = omega arith

-- the width and the count, by the header's bytes
header_width : (sheet : List ℕ) → ((i : ℕ) → get_or sheet i 0 < 256) → 2 ≤ length sheet → width_field sheet ≡ get_or sheet 0 0 / 8 + 1
header_width [] fits two = absurd (omega arith)
header_width (f ∷ []) fits two = absurd (omega arith)
header_width (f ∷ (s ∷ rest)) fits two = headers.width_is f s rest (fits 0) (fits 1)

header_count : (sheet : List ℕ) → ((i : ℕ) → get_or sheet i 0 < 256) → 2 ≤ length sheet → count_field sheet ≡ get_or sheet 0 0 % 8 * 16 + get_or sheet 1 0 / 16
header_count [] fits two = absurd (omega arith)
header_count (f ∷ []) fits two = absurd (omega arith)
header_count (f ∷ (s ∷ rest)) fits two = headers.count_is f s rest (fits 0) (fits 1)

opened_with : (sheet : List ℕ) (places count needed : ℕ) → ((i : ℕ) → get_or sheet i 0 < 256) → 2 ≤ length sheet → width_field sheet ≡ places →
    count_field sheet ≡ count → needed ≡ count * places / 4 + min 1 (count * places % 4) → Opened sheet (take (length sheet - 2) (drop 2 sheet)) places count needed
unfolding symbol_bits zero_bits
opened_with [] places count needed fits two w c hn = absurd (omega arith)
opened_with (f ∷ []) places count needed fits two w c hn = absurd (omega arith)
opened_with (f ∷ (s ∷ rest)) places count needed fits two w c hn =
    let e : take (suc (suc (length rest)) - 2) rest ≡ rest = take_all (suc (suc (length rest)) - 2) rest (omega arith) in
    let n : 2 * (count_field (f ∷ (s ∷ rest)) * width_field (f ∷ (s ∷ rest))) ≡ 2 * (count * places) = ap₂ (λ (a b : ℕ). 2 * (a * b)) c w in
    record {
      two = two;
      width_is = w;
      count_is = c;
      size_is = ap₂ size_of_sheet w c ∙ needed_size places count needed hn;
      length_is = (let l = ap length e in omega arith);
      symbols_are = ap₂ (λ (k : ℕ) (u : Digits). take k u) n (headers.rest_is f s rest (fits 0) (fits 1) ∙ ap bits_of (sym e));
      zeros_are =
          ap₂ (λ (a b : Digits). a ++ b) (headers.zeros_are f s rest (fits 0) (fits 1))
          (ap₂ (λ (k : ℕ) (u : Digits). drop k u) n (headers.rest_is f s rest (fits 0) (fits 1) ∙ ap bits_of (sym e)));
    }

-- by the header's bytes
pub opened : (sheet : List ℕ) (places count needed : ℕ) → ((i : ℕ) → get_or sheet i 0 < 256) → 2 ≤ length sheet → places ≡ get_or sheet 0 0 / 8 + 1 →
    count ≡ get_or sheet 0 0 % 8 * 16 + get_or sheet 1 0 / 16 → needed ≡ count * places / 4 + min 1 (count * places % 4) → Opened sheet (take (length sheet - 2) (drop 2 sheet)) places count needed
opened sheet places count needed fits two hp hc hn =
    opened_with sheet places count needed fits two (header_width sheet fits two ∙ sym hp) (header_count sheet fits two ∙ sym hc) hn

-- a sheet of rows, opened
pub sheet_opened : (width : ℕ) (rows : List Symbols) (sheet : List ℕ) → Sheet width rows sheet → ((i : ℕ) → get_or sheet i 0 < 256) →
    Opened sheet (take (length sheet - 2) (drop 2 sheet)) width (length rows) (length rows * width / 4 + min 1 (length rows * width % 4))
sheet_opened width rows sheet is fits =
    let s = sheet_says width rows sheet is in
    opened_with sheet width (length rows) (length rows * width / 4 + min 1 (length rows * width % 4)) fits s.two s.width_is s.count_is refl

-- how long it is, in numbers
pub record Lengths (width count : ℕ) (sheet : List ℕ) : Type 0 where
  pub two : 2 ≤ length sheet
  pub few : count ≤ 120
  pub narrow : width ≤ 32
  pub inside : count * width ≤ 4 * (length sheet - 2)

pub lengths : (width : ℕ) (rows : List Symbols) (sheet : List ℕ) → Sheet width rows sheet → Lengths width (length rows) sheet
unfolding size_of_sheet
lengths width rows sheet is =
    let s = sheet_says width rows sheet is in
    let e = s.size in
    record { two = s.two; few = is.few; narrow = is.high; inside = omega arith }

-- the rows, one by one
module _ {sheet body : List ℕ} {places count needed : ℕ} (o : Opened sheet body places count needed) where
  pub rows_count : length (map words_of (rows_in sheet)) ≡ count
  rows_count = length-map (rows_in sheet) words_of ∙ length_cut (width_field sheet) (count_field sheet) (symbols_of (symbol_bits sheet)) ∙ o.count_is

  pub row_read : (i : ℕ) → i < count → get_or (map words_of (rows_in sheet)) i no_words ≡ words_of (take places (drop (i * places) (symbols_of (bits_of body))))
  row_read i h =
      let s = symbols_of (bits_of body) in
      let m : i * places + places ≤ count * places = let p = mul-le (i + 1) places count places (omega arith) (omega arith) in let q = suc-mul i places in omega (arith, ap (λ k. k * places) (plus i)) in
      let l : length (rows_in sheet) ≡ count = length_cut (width_field sheet) (count_field sheet) (symbols_of (symbol_bits sheet)) ∙ o.count_is in
      let j : i * places + (count * places - i * places) ≡ count * places = omega arith in
      get_or-map words_of (rows_in sheet) i [] no_words (omega arith) ∙
      ap words_of (
      ap₂ (λ (a b : ℕ). get_or (cut a b (symbols_of (symbol_bits sheet))) i []) o.width_is o.count_is ∙
      cut_at places count (symbols_of (symbol_bits sheet)) i h ∙
      ap (λ (u : Symbols). take places (drop (i * places) u)) (ap symbols_of o.symbols_are ∙ take_symbols_of (count * places) (bits_of body)) ∙
      ap (λ (k : ℕ). take places (drop (i * places) (take k s))) (sym j) ∙
      ap (take places) (drop-take (i * places) (count * places - i * places) s) ∙
      take-take places (count * places - i * places) (drop (i * places) s) (omega arith))
    where
      plus : (i : ℕ) → i + 1 ≡ suc i
      plus i = omega arith
