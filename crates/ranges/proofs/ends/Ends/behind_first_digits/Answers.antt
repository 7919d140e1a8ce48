use Rattle.std.proofs.Common.{ℕ, ◌%◌, ◌^◌, ◌∙◌, ap, sym, arith}
use Rattle.ranges.proofs.SplitEnds.{split_end}
use Rattle.ranges.proofs.ends.Ends.behind_first_digits.Goals as goal

pub returns : goal.returns
returns c =
    let s = c.args.self in
    let r = c.last_places.result in
    let e = c.last_places.ensures.places in
    let some = c.requires in
    record {
      split = record {
        places = omega arith;
        first = split_end s.places r.places s.first r.first (omega arith) s.first_within (c.last_places.ensures.first ∙ ap (λ (k : ℕ). s.first % 2 ^ k) (sym e));
        last = split_end s.places r.places s.last r.last (omega arith) s.last_within (c.last_places.ensures.last ∙ ap (λ (k : ℕ). s.last % 2 ^ k) (sym e));
      };
    }
