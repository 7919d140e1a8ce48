use Rattle.std.proofs.Common.{ℕ, eqb, sym, ◌∙◌, ap₂, arith}
use lib.Bits.{bit_and, and_le_r}
use Rattle.covers.proofs.RowWords.{words_take}
use Rattle.rows.proofs.row.Row.takes.Goals as goal

pub returns : goal.returns
returns c =
    let row = c.args.self in
    let mask = ap₂ (λ (p q : ℕ). eqb (bit_and c.args.number p) q) c.from.ensures c.from-2.ensures in
    record {
      by_mask = mask;
      by_symbols = λ n h.
          let l = and_le_r row.value row.care in
          let e = row.clean in
          mask ∙ sym (words_take n row.value row.care c.args.number (omega arith) h row.clean);
    }
