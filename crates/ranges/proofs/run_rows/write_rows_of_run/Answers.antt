use Rattle.std.proofs.Common.{List, ◌++◌, map, length, drop, sym, refl, ap, ◌∙◌}
use Rattle.covers.specs.Symbols.{Symbols}
use Rattle.rows.specs.Memory.{words_of}
use Rattle.rows.specs.Widths.{places_of}
use Rattle.ranges.proofs.RowsWithin.{granted, refused}
use Rattle.ranges.proofs.run_rows.write_rows_of_run.Goals as goal

pub returns-in-Ok : goal.returns-in-Ok
returns-in-Ok c =
    let n = places_of c.args.width in
    let m = c.args.memory.now in
    let k = c.in-Ok.count in
    let g = granted n c.args.run.first c.args.run.last (length m) k c.in-Ok.ensures.answer in
    record {
      rows = c.in-Ok.ensures.written ∙ ap (λ (l : List Symbols). map words_of l ++ drop k m) (sym g.0);
      count = g.1 ∙ ap length (sym g.0);
    }

pub returns-in-Err : goal.returns-in-Err
returns-in-Err c =
    let n = places_of c.args.width in
    let m = c.args.memory.now in
    let none = refused n c.args.run.first c.args.run.last (length m) _ c.in-Err.ensures.answer c.requires.room in
    record {
      rows = c.in-Err.ensures.untouched_when_refused refl ∙ ap (λ (l : List Symbols). map words_of l ++ m) (sym none);
      count = ap length (sym none);
    }
