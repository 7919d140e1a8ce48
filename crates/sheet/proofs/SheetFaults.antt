-- Which fault a sheet has, by what was tested.
use Rattle.std.proofs.Common.{◌≡◌, ℕ, ◌<◌, ◌≤◌, true, false, not, ◌||◌, ltb, List, length, Some, None, sym, refl, ap, ◌∙◌, ap₂, arith}
use Rattle.std.proofs.lemmas.Bool.{lt-ltb, le-ltb, or_from}
use Rattle.covers.specs.Digits.{all_zeros}
use Rattle.covers.specs.Symbols.{Symbols}
use Rattle.rows.specs.declared.refusal.Refusal.{Refusal}
use Rattle.rows.specs.declared.refusal.Refusal.TheVariants.{TooManyRows, SheetTooShort, UnknownSymbol, SheetNotClean}
use Rattle.sheets.specs.Format.{size_of_sheet, Sheet}
use Rattle.sheets.specs.Reading.{width_field, count_field, symbol_bits, zero_bits, unknown_code}
use Rattle.sheets.proofs.Readings.{sheet_says}
use Rattle.sheet.specs.Faults.{sheet_fault}

abbrev size : List ℕ → ℕ
size sheet = size_of_sheet (width_field sheet) (count_field sheet)

module _ (sheet : List ℕ) where
  pub fault_header : length sheet < 2 → sheet_fault sheet ≡ Some SheetTooShort
  unfolding sheet_fault
  fault_header h = rw (lt-ltb (length sheet) 2 h) refl

  module _ (two : 2 ≤ length sheet) where
    pub fault_many : 120 < count_field sheet → sheet_fault sheet ≡ Some TooManyRows
    unfolding sheet_fault
    fault_many h = rw (le-ltb (length sheet) 2 two, lt-ltb 120 (count_field sheet) h) refl

    module _ (few : count_field sheet ≤ 120) where
      pub fault_missing : length sheet < size sheet → sheet_fault sheet ≡ Some SheetTooShort
      unfolding sheet_fault
      fault_missing h = rw (le-ltb (length sheet) 2 two, le-ltb 120 (count_field sheet) few, lt-ltb (length sheet) (size sheet) h) refl

      module _ (long : size sheet ≤ length sheet) where
        pub fault_unknown : unknown_code (symbol_bits sheet) ≡ true → sheet_fault sheet ≡ Some UnknownSymbol
        unfolding sheet_fault
        fault_unknown h = rw (le-ltb (length sheet) 2 two, le-ltb 120 (count_field sheet) few, le-ltb (length sheet) (size sheet) long, h) refl

        module _ (known : unknown_code (symbol_bits sheet) ≡ false) where
          pub fault_unclean : (not (all_zeros (zero_bits sheet)) || ltb (size sheet) (length sheet)) ≡ true → sheet_fault sheet ≡ Some SheetNotClean
          unfolding sheet_fault
          fault_unclean h = rw (le-ltb (length sheet) 2 two, le-ltb 120 (count_field sheet) few, le-ltb (length sheet) (size sheet) long, known, h) refl

          module _ (zeros : all_zeros (zero_bits sheet) ≡ true) (ends : length sheet ≤ size sheet) where
            clean : (not (all_zeros (zero_bits sheet)) || ltb (size sheet) (length sheet)) ≡ false
            clean = or_from (not (all_zeros (zero_bits sheet))) (ltb (size sheet) (length sheet)) (ap not zeros) (le-ltb (size sheet) (length sheet) ends)

            pub no_fault : sheet_fault sheet ≡ None
            unfolding sheet_fault
            no_fault = rw (le-ltb (length sheet) 2 two, le-ltb 120 (count_field sheet) few, le-ltb (length sheet) (size sheet) long, known, clean) refl

-- the sheet of rows has no fault
pub sheet_read : (width : ℕ) (rows : List Symbols) (sheet : List ℕ) → Sheet width rows sheet → sheet_fault sheet ≡ None
sheet_read width rows sheet is =
    let s = sheet_says width rows sheet is in
    let c = s.count_is in
    let f = is.few in
    let e : size sheet ≡ length sheet = ap₂ size_of_sheet s.width_is s.count_is ∙ sym s.size in
    no_fault sheet s.two (omega arith) (omega arith) s.known s.zeros (omega arith)

pub never_refused : (sheet : List ℕ) (e : Refusal) → sheet_fault sheet ≡ Some e → (width : ℕ) (rows : List Symbols) → Sheet width rows sheet → ⊥
never_refused sheet e f width rows is =
    let n = sheet_read width rows sheet is in
    let z : ◌≡◌ {A = ℕ} 0 1 = cc in
    omega arith
