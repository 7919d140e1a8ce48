use Rattle.std.proofs.Common.{◌≡◌, ◌-◌, ◌++◌, ◌∷◌, [], arith}
use Rattle.std.proofs.lemmas.Grind.{common_steps}
use Rattle.covers.specs.Symbols.{letter}
use Rattle.covers.specs.Words.{symbol_at}
use Rattle.rows.proofs.RowTexts.{letters_more}
use Rattle.rows.proofs.row.Row.text.Goals as goal

pub loop-place-preserved : goal.loop-place-preserved
loop-place-preserved c =
    let now = c.loop-place.invariant in
    let row = c.args.self in
    let p = c.loop-place.place in
    let pushed : c.push.new.self.bytes ≡ c.loop-place.text.bytes ++ letter (symbol_at row.value row.care (p - 1)) ∷ [] = grind (arith, common_steps) in (
      rw pushed (letters_more c.loop-place.text.bytes _ p row.value row.care c.loop-place-test.true now.0),
      grind (arith, common_steps),
    )
