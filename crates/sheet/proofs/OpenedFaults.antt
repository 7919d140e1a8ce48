-- Which fault a sheet has, by what was tested of it once opened.
use Rattle.std.proofs.Common.{◌≡◌, ℕ, ◌*◌, ◌%◌, ◌<◌, ◌≤◌, ◌≢◌, Bool, true, false, not, ◌&&◌, eqb, ltb, List, length, get_or, take, drop, Some, None, sym, ap, ◌∙◌, ap₂, arith}
use Rattle.std.specs.List.{AllByRecursion}
use Rattle.std.proofs.lemmas.Bool.{lt-ltb, eq-eqb, ne_eqb, or_left, or_right}
use Rattle.covers.specs.Digits.{digits, all_zeros}
use Rattle.rows.specs.declared.refusal.Refusal.TheVariants.{TooManyRows, SheetTooShort, UnknownSymbol, SheetNotClean}
use Rattle.sheets.specs.Format.{size_of_sheet, Sheet}
use Rattle.sheets.specs.Reading.{bits_of, width_field, count_field, symbol_bits, zero_bits, unknown_code}
use Rattle.sheets.proofs.Headers.{zeros_low}
use Rattle.sheets.proofs.Readings.{rows_in, reading_stands, zeros_append}
use Rattle.sheet.specs.Faults.{sheet_fault}
use Rattle.sheet.proofs.Opened.{Opened}
use Rattle.sheet.proofs.SheetFaults as faults

module _ {sheet body : List ℕ} {places count needed : ℕ} (o : Opened sheet body places count needed) where
  zeros : all_zeros (zero_bits sheet) ≡ (eqb (get_or sheet 1 0 % 16) 0 && all_zeros (drop (2 * (count * places)) (bits_of body)))
  zeros =
      let v = drop (2 * (count * places)) (bits_of body) in
      ap all_zeros o.zeros_are ∙ zeros_append (digits 4 (get_or sheet 1 0)) v ∙ ap (λ (t : Bool). t && all_zeros v) (zeros_low 4 (get_or sheet 1 0))

  pub too_many : 120 < count → sheet_fault sheet ≡ Some TooManyRows
  too_many h = let k = o.count_is in faults.fault_many sheet o.two (omega arith)

  module _ (few : count ≤ 120) where
    few_rows : count_field sheet ≤ 120
    few_rows = let k = o.count_is in omega arith

    pub missing : length body < needed → sheet_fault sheet ≡ Some SheetTooShort
    missing h = let s = o.size_is in let l = o.length_is in faults.fault_missing sheet o.two few_rows (omega arith)

    module _ (enough : needed ≤ length body) where
      long : size_of_sheet (width_field sheet) (count_field sheet) ≤ length sheet
      long = let s = o.size_is in let l = o.length_is in omega arith

      pub unknown : true ≡ unknown_code (take (2 * (count * places)) (bits_of body)) → sheet_fault sheet ≡ Some UnknownSymbol
      unknown u = faults.fault_unknown sheet o.two few_rows long (ap unknown_code o.symbols_are ∙ sym u)

      module _ (known : false ≡ unknown_code (take (2 * (count * places)) (bits_of body))) where
        all_known : unknown_code (symbol_bits sheet) ≡ false
        all_known = ap unknown_code o.symbols_are ∙ sym known

        pub left_over : needed < length body → sheet_fault sheet ≡ Some SheetNotClean
        left_over h =
            let s = o.size_is in
            let l = o.length_is in
            let size = size_of_sheet (width_field sheet) (count_field sheet) in
            faults.fault_unclean sheet o.two few_rows long all_known
            (or_right (not (all_zeros (zero_bits sheet))) (ltb size (length sheet)) (lt-ltb size (length sheet) (omega arith)))

        no_zeros : all_zeros (zero_bits sheet) ≡ false → sheet_fault sheet ≡ Some SheetNotClean
        no_zeros z =
            faults.fault_unclean sheet o.two few_rows long all_known
            (or_left (not (all_zeros (zero_bits sheet))) (ltb (size_of_sheet (width_field sheet) (count_field sheet)) (length sheet)) (ap not z))

        pub header_unclean : get_or sheet 1 0 % 16 ≢ 0 → sheet_fault sheet ≡ Some SheetNotClean
        header_unclean h = no_zeros (zeros ∙ ap (λ (t : Bool). t && all_zeros (drop (2 * (count * places)) (bits_of body))) (ne_eqb (get_or sheet 1 0 % 16) 0 h))

        module _ (clean : get_or sheet 1 0 % 16 ≡ 0) where
          pub filling_unclean : false ≡ all_zeros (drop (2 * (count * places)) (bits_of body)) → sheet_fault sheet ≡ Some SheetNotClean
          filling_unclean z = no_zeros (zeros ∙ ap₂ (λ (a b : Bool). a && b) (eq-eqb (get_or sheet 1 0 % 16) 0 clean) (sym z))

          module _ (filled : true ≡ all_zeros (drop (2 * (count * places)) (bits_of body))) (ends : length body ≤ needed) where
            all_clean : all_zeros (zero_bits sheet) ≡ true
            all_clean = zeros ∙ ap₂ (λ (a b : Bool). a && b) (eq-eqb (get_or sheet 1 0 % 16) 0 clean) (sym filled)

            no_more : length sheet ≤ size_of_sheet (width_field sheet) (count_field sheet)
            no_more = let s = o.size_is in let l = o.length_is in omega arith

            pub no_fault : sheet_fault sheet ≡ None
            no_fault = faults.no_fault sheet o.two few_rows long all_known all_clean no_more

            pub stands : AllByRecursion (λ b. b < 256) sheet → Sheet (width_field sheet) (rows_in sheet) sheet
            stands small = let s = o.size_is in let l = o.length_is in reading_stands sheet small o.two few_rows (omega arith) all_known all_clean
