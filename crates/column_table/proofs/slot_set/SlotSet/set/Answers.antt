use Rattle.std.proofs.Common.{ℕ, ◌-◌, ◌^◌, Bool, cond, eqb, sym, ap, ◌∙◌, arith}
use lib.Bits.{bit_or, bit_and}
use Rattle.std.proofs.lemmas.Nat.{one_shl}
use Rattle.covers.specs.Digits.{digit}
use Rattle.column_table.proofs.BitSets.{put_in, taken_out}
use Rattle.column_table.proofs.slot_set.SlotSet.set.Goals as goal

pub returns-then-inside : goal.returns-then-inside
returns-then-inside c =
    let bits = c.args.self.now.bits in
    let slot = c.args.slot in
    record {
      value = λ i. ap (λ (b : ℕ). digit i (bit_or bits b)) (one_shl slot.index 128 slot.within) ∙ put_in bits slot.index i
          ∙ ap (λ (t : Bool). cond (eqb i slot.index) t (digit i bits)) (sym c.if-inside.true);
    }

pub returns-else-inside : goal.returns-else-inside
returns-else-inside c =
    let bits = c.args.self.now.bits in
    let slot = c.args.slot in
    record {
      value = λ i. ap (λ (b : ℕ). digit i (bit_and bits ((2 ^ 128 - 1) - b))) (one_shl slot.index 128 slot.within)
          ∙ taken_out 128 bits slot.index i (omega arith) slot.within
          ∙ ap (λ (t : Bool). cond (eqb i slot.index) t (digit i bits)) (sym c.if-inside.false);
    }
