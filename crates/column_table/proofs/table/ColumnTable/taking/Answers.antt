use Rattle.std.proofs.Common.{◌≡◌, ℕ, ◌-◌, ◌^◌, ◌<◌, Bool, true, false, ◌&&◌, ltb, length, sym, refl, ap, ◌∙◌, arith, pow_pos, rules, get_or-take}
use Rattle.std.proofs.lemmas.Nat.{one_shl}
use Rattle.covers.specs.Digits.{digit}
use Rattle.rows.specs.Widths.{places_of}
use Rattle.column_table.specs.declared.table.ColumnTable.{ColumnTable}
use Rattle.column_table.specs.Columns.{blank_column, column_slots}
use Rattle.column_table.specs.ColumnTables.{slot_count}
use Rattle.column_table.proofs.BitSets.{digit_ones}
use Rattle.column_table.proofs.Columns.{column_more, column_takes, column_length, admitted}
use Rattle.column_table.proofs.table.ColumnTable.taking.Goals as goal

-- so many slots as the table has
counted : (n : ℕ) (t : ColumnTable) → n ≡ length (column_slots (places_of t.width) t.columns (slot_count t)) → n ≡ slot_count t
counted n t e = e ∙ column_length (places_of t.width) t.columns (slot_count t)

pub overflow_sub-slots : goal.overflow_sub-slots
overflow_sub-slots c =
    let t = c.args.self.now in
    let count = counted c.slot_count.result t c.slot_count.ensures.answer in
    omega (arith, one_shl c.slot_count.result 128 (omega arith), pow_pos c.slot_count.result)

and_true : (b : Bool) → b ≡ (b && true)
and_true true = refl
and_true false = refl

pub loop-place-init : goal.loop-place-init
loop-place-init c i =
    let t = c.args.self.now in
    let count = counted c.slot_count.result t c.slot_count.ensures.answer in
    ap (λ (k : ℕ). digit i (k - 1)) (one_shl c.slot_count.result 128 (omega arith) ∙ ap (λ (k : ℕ). 2 ^ k) count) ∙
    digit_ones i (slot_count t) ∙ and_true (ltb i (slot_count t))

pub loop-place-preserved : goal.loop-place-preserved
loop-place-preserved c i =
    let t = c.args.self.now in
    let p = c.loop-place.place in
    let x = c.args.number in
    let short : p < c.places-places.result = search rules in
    c.intersect.ensures.value i ∙
    column_more i p x c.loop-place.slots.bits (slot_count t) c.admitting.result.now t.columns _ (c.loop-place.invariant i)
    c.has_one.ensures.value (rw (get_or-take c.places-places.result t.columns p blank_column short) at c.admitting.ensures.value)

pub returns : goal.returns
returns c =
    let t = c.args.self.now in
    let x = c.args.number in
    let last : c.loop-place.place ≡ places_of t.width = search rules in
    record {
      value = λ i. c.loop-place.invariant i ∙
          ap (λ (b : Bool). ltb i (slot_count t) && b) (ap (λ (k : ℕ). admitted k t.columns i x) last ∙ sym (column_takes (places_of t.width) t.columns i x));
    }
