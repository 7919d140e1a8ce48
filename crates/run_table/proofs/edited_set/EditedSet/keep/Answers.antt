use Rattle.std.proofs.Common.{List, [], ◌∷◌, ◌++◌, sym, ap, ◌∙◌, arith}
use Rattle.rows.specs.Widths.{places_of}
use Rattle.rows.specs.declared.range.Range.{Range}
use Rattle.run_table.proofs.Writing.{runs_at_one}
use Rattle.run_table.proofs.edited_set.EditedSet.keep.Goals as goal

pub returns-then-begins : goal.returns-then-begins
returns-then-begins c =
    let n = places_of c.args.self.width in
    let e = c.args.self.edit in
    let R = c.args.self.runs.now in
    let out = c.args.out.now.items in
    record {
      runs = c.push.ensures.items ∙
          ap (λ (r : Range). out ++ r ∷ []) c.run_from.ensures.value ∙
          ap (λ (l : List Range). out ++ l) (sym (runs_at_one n e R c.args.first (sym c.if-begins.ensures.value)));
      at_most_one = omega arith;
    }
