use Rattle.std.proofs.Common.{ℕ, ◌+◌, ◌-◌, ◌*◌, ◌/◌, ◌<◌, ◌≤◌, length, get_or, sym, ap, ◌∙◌, arith}
use Rattle.std.proofs.lemmas.Nat.{mul-le}
use Rattle.rows.proofs.Widths.{places_most}
use Rattle.rows.specs.Widths.{places_of}
use Rattle.sheets.specs.Format.{size_of_sheet}
use Rattle.sheet.specs.Packing.{sheet_of}
use Rattle.sheet.proofs.Rows.{sheet_0, sheet_1, sheet_rest}
use Rattle.sheet.proofs.sheet_rows.SheetRows.byte_at.Goals as goal

-- no sheet has more than 962 bytes
few_bytes : (width count : ℕ) → width ≤ 32 → count ≤ 120 → size_of_sheet width count ≤ 962
unfolding size_of_sheet
few_bytes width count h k = let m = mul-le count width 120 32 k h in omega arith

module _ (c : goal.In_default) where
  near : c.args.index < 962
  near =
      let s = few_bytes (places_of c.args.self.now.width) (length c.args.self.now.rows.now) (places_most c.args.self.now.width) c.args.self.now.few in
      let i = c.requires in
      omega arith

pub overflow_mul-index : goal.overflow_mul-index
overflow_mul-index c = let n = near c in omega arith

pub byte_of_four-requires : goal.byte_of_four-requires
byte_of_four-requires c = let n = near c in omega arith

pub returns-in-0 : goal.returns-in-0
returns-in-0 c =
    let n = places_of c.args.self.now.width in
    let rows = c.args.self.now.rows.now in
    record {
      value =
          ap (λ (k : ℕ). (k - 1) * 8 + length rows / 16) c.places-places.ensures.value ∙
          sym (ap (λ (k : ℕ). get_or (sheet_of n rows) k 0) c.in-0.is ∙ sheet_0 n rows (places_most c.args.self.now.width) c.args.self.now.few);
    }

pub returns-in-1 : goal.returns-in-1
returns-in-1 c =
    let n = places_of c.args.self.now.width in
    let rows = c.args.self.now.rows.now in
    record { value = sym (ap (λ (k : ℕ). get_or (sheet_of n rows) k 0) c.in-1.is ∙ sheet_1 n rows (places_most c.args.self.now.width) c.args.self.now.few) }

pub returns-in_default : goal.returns-in_default
returns-in_default c =
    record {
      value =
          c.byte_of_four.ensures.value ∙
          sym (sheet_rest (places_of c.args.self.now.width) c.args.self.now.rows.now (places_most c.args.self.now.width) c.args.self.now.few c.args.index (omega arith) c.requires.inside);
    }
