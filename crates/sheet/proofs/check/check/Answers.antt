use Rattle.std.proofs.Common.{◌≡◌, ℕ, ◌-◌, ◌≤◌, length, take, drop, Some, sym, refl, ap, ◌∙◌, subst, arith}
use Rattle.std.proofs.lemmas.List.{length-map}
use Rattle.rows.specs.Widths.{places_of}
use Rattle.rows.specs.declared.refusal.Refusal.TheVariants.{SheetNotClean}
use Rattle.rows.specs.Memory.{words_of}
use Rattle.sheets.specs.Format.{Sheet}
use Rattle.sheets.specs.Reading.{width_field}
use Rattle.sheets.proofs.Readings.{rows_in, sheet_says}
use Rattle.sheet.specs.Faults.{sheet_fault}
use Rattle.sheet.proofs.Opened.{opened, all_bytes, rows_count}
use Rattle.sheet.proofs.OpenedFaults.{too_many, missing, unknown, left_over, header_unclean, filling_unclean, no_fault, stands}
use Rattle.sheet.proofs.SheetFaults.{fault_header, never_refused}
use Rattle.sheet.proofs.check.check.Goals as goal
use Rattle.sheet.proofs.check.check.Goals.{then-left_over-gt0-via-then-left_over-gt0, then-left_over-gt0-via-else-left_over-gt0+then-second-ne0, then-left_over-gt0-via-else-left_over-gt0+else-second-ne0+then-not-is_filled_with_zeros}

pub returns-in_default : goal.returns-in_default
returns-in_default c =
    let f = fault_header c.args.bytes.now c.in_default.len_below in
    record { refusal = sym f; header = tt; is_sheet = tt; accepts = never_refused c.args.bytes.now _ f }

pub returns-then-size-gt-MOST_ROWS : goal.returns-then-size-gt-MOST_ROWS
returns-then-size-gt-MOST_ROWS c =
    let sheet = c.args.bytes.now in
    let o =
    opened sheet (places_of c.header-size.result.width) c.header-size.result.count _ (λ i. omega (arith, c.type_inv.bytes i)) c.in-len2-up.len_at_least
    c.header-size.ensures.width c.header-size.ensures.count refl in
    let t = c.if-size-gt-MOST_ROWS.true in
    let f = too_many o (omega arith) in
    record { refusal = sym f; header = tt; is_sheet = tt; accepts = never_refused sheet _ f }

pub returns-then-body-needed : goal.returns-then-body-needed
returns-then-body-needed c =
    let sheet = c.args.bytes.now in
    let o =
    opened sheet c.places.result c.header-size.result.count c.div_ceil-needed.result (λ i. omega (arith, c.type_inv.bytes i)) c.in-len2-up.len_at_least
    (c.places.ensures.value ∙ c.header-size.ensures.width) c.header-size.ensures.count c.div_ceil-needed.ensures in
    let few : c.header-size.result.count ≤ 120 = let k = c.if-size-gt-MOST_ROWS.false in omega arith in
    let t = c.if-body-needed.true in
    let f = missing o few (omega arith) in
    record { refusal = sym f; header = tt; is_sheet = tt; accepts = never_refused sheet _ f }

pub returns-then-has_unknown : goal.returns-then-has_unknown
returns-then-has_unknown c =
    let sheet = c.args.bytes.now in
    let o =
    opened sheet c.places.result c.header-size.result.count c.div_ceil-needed.result (λ i. omega (arith, c.type_inv.bytes i)) c.in-len2-up.len_at_least
    (c.places.ensures.value ∙ c.header-size.ensures.width) c.header-size.ensures.count c.div_ceil-needed.ensures in
    let few : c.header-size.result.count ≤ 120 = let k = c.if-size-gt-MOST_ROWS.false in omega arith in
    let enough : c.div_ceil-needed.result ≤ length (take (length sheet - 2) (drop 2 sheet)) = let k = c.if-body-needed.false in omega arith in
    let f = unknown o few enough c.if-has_unknown.ensures.value in
    record { refusal = sym f; header = tt; is_sheet = tt; accepts = never_refused sheet _ f }

pub returns-then-left_over-gt0 : goal.returns-then-left_over-gt0
returns-then-left_over-gt0 c =
    let sheet = c.args.bytes.now in
    let o =
    opened sheet c.places.result c.header-size.result.count c.div_ceil-needed.result (λ i. omega (arith, c.type_inv.bytes i)) c.in-len2-up.len_at_least
    (c.places.ensures.value ∙ c.header-size.ensures.width) c.header-size.ensures.count c.div_ceil-needed.ensures in
    let few : c.header-size.result.count ≤ 120 = let k = c.if-size-gt-MOST_ROWS.false in omega arith in
    let enough : c.div_ceil-needed.result ≤ length (take (length sheet - 2) (drop 2 sheet)) = let k = c.if-body-needed.false in omega arith in
    let known = c.if-has_unknown.ensures.value in
    let f : sheet_fault sheet ≡ Some SheetNotClean =
    elim c.then-left_over-gt0.branch [
      | then-left_over-gt0-via-then-left_over-gt0 w ↦ let t = w.if-left_over-gt0.true in left_over o few enough known (omega arith)
      | then-left_over-gt0-via-else-left_over-gt0+then-second-ne0 w ↦ header_unclean o few enough known w.if-second-ne0.true
      | then-left_over-gt0-via-else-left_over-gt0+else-second-ne0+then-not-is_filled_with_zeros w ↦
          filling_unclean o few enough known w.if-second-ne0.false w.if-not-is_filled_with_zeros.ensures.value
    ] in
    record { refusal = sym f; header = tt; is_sheet = tt; accepts = never_refused sheet _ f }

pub returns : goal.returns
returns c =
    let sheet = c.args.bytes.now in
    let o =
    opened sheet c.places.result c.header-size.result.count c.div_ceil-needed.result (λ i. omega (arith, c.type_inv.bytes i)) c.in-len2-up.len_at_least
    (c.places.ensures.value ∙ c.header-size.ensures.width) c.header-size.ensures.count c.div_ceil-needed.ensures in
    let few : c.header-size.result.count ≤ 120 = let k = c.if-size-gt-MOST_ROWS.false in omega arith in
    let enough : c.div_ceil-needed.result ≤ length (take (length sheet - 2) (drop 2 sheet)) = let k = c.if-body-needed.false in omega arith in
    let known = c.if-has_unknown.ensures.value in
    let clean = c.if-second-ne0.false in
    let filled = c.if-not-is_filled_with_zeros.ensures.value in
    let t = c.if-left_over-gt0.false in
    let ends : length (take (length sheet - 2) (drop 2 sheet)) ≤ c.div_ceil-needed.result = omega arith in
    let wide : width_field sheet ≡ places_of c.header-size.result.width = o.width_is ∙ c.places.ensures.value in
    let is = stands o few enough known clean filled ends (all_bytes sheet (λ i. omega (arith, c.type_inv.bytes i))) in
    let many : c.header-size.result.count ≡ length (rows_in sheet) = sym (rows_count o) ∙ length-map (rows_in sheet) words_of in
    record {
      refusal = sym (no_fault o few enough known clean filled ends);
      header = (sym wide, sym o.count_is);
      is_sheet = (rows_in sheet, (subst (λ (w : ℕ). Sheet w (rows_in sheet) sheet) wide is, many));
      accepts = λ width others p. let a = sheet_says width others sheet p in (sym wide ∙ a.width_is, many ∙ ap length a.rows_are);
    }
