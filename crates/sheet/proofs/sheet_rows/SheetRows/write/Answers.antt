use Rattle.std.proofs.Common.{ℕ, List, set, ◌∙◌, ap₂, arith}
use Rattle.rows.specs.Widths.{places_of}
use Rattle.sheet.specs.Packing.{sheet_of}
use Rattle.sheet.proofs.Copies.{copied_more, copied_all}
use Rattle.sheet.proofs.Rows.{sheet_length}
use Rattle.sheet.proofs.sheet_rows.SheetRows.write.Goals as goal

pub loop-index-preserved : goal.loop-index-preserved
loop-index-preserved c =
    let n = places_of c.args.self.now.width in
    let rows = c.args.self.now.rows.now in
    let l = sheet_length n rows in
    let e = c.requires.size in
    let t = c.loop-index-test.true in
    ap₂ (λ (m : List ℕ) (b : ℕ). set m c.loop-index.index b) c.loop-index.invariant c.byte_at.ensures.value ∙
    copied_more (sheet_of n rows) c.args.memory.now c.loop-index.index 0 (omega arith) (omega arith)

pub returns : goal.returns
returns c =
    let n = places_of c.args.self.now.width in
    let rows = c.args.self.now.rows.now in
    let l = sheet_length n rows in
    let e = c.requires.size in
    let t = c.loop-index-test.false in
    record { sheet = c.loop-index.invariant ∙ copied_all (sheet_of n rows) c.args.memory.now c.loop-index.index (omega arith) (omega arith) }
