use Rattle.std.proofs.Common.{ℕ, ◌-◌, leb, [], ◌∷◌, ◌++◌, length, sym, ap, ◌∙◌, arith}
use Rattle.std.proofs.lemmas.Bool.{le-leb, lt-leb}
use Rattle.covers.specs.WitnessNumbers.{numbers_beside}
use Rattle.ranges.proofs.Adding.{moved}
use Rattle.ranges.proofs.BesideLists.{beside_at_parting, beside_at_one, beside_at_shared}
use Rattle.ranges.proofs.beside.Beside.write.Goals as goal

pub write_parting-requires : goal.write_parting-requires
write_parting-requires c =
    let L = c.loop-places in
    let s = c.args.self in
    let over = leb s.after s.before in
    let step = beside_at_parting L.places c.loop-places-test.true s.before s.after c.has_one.result c.has_one-in-loop-places.result c.has_one.ensures.value c.has_one-in-loop-places.ensures.value over c.if-has_one.true in
    let k = ap length step in
    let room = L.invariant.room in
    omega arith

pub returns-then-has_one : goal.returns-then-has_one
returns-then-has_one c =
    let L = c.loop-places in
    let s = c.args.self in
    let over = leb s.after s.before in
    let step = beside_at_parting L.places c.loop-places-test.true s.before s.after c.has_one.result c.has_one-in-loop-places.result c.has_one.ensures.value c.has_one-in-loop-places.ensures.value over c.if-has_one.true in
    record { numbers = c.write_parting.ensures.numbers ∙ ap (λ l. L.numbers.items ++ l) (sym step) ∙ L.invariant.list }

pub push-requires : goal.push-requires
push-requires c =
    let L = c.loop-places in
    let s = c.args.self in
    let over = leb s.after s.before in
    let step = beside_at_one L.places c.loop-places-test.true s.before s.after c.has_one.result c.has_one-in-loop-places.result c.has_one.ensures.value c.has_one-in-loop-places.ensures.value over (le-leb s.after s.before c.if-self.true) c.if-has_one.false in
    let k = ap length step in
    let room = L.invariant.room in
    omega arith

pub loop-places-preserved-then-self : goal.loop-places-preserved-then-self
loop-places-preserved-then-self c =
    let L = c.loop-places in
    let s = c.args.self in
    let over = leb s.after s.before in
    let step = beside_at_one L.places c.loop-places-test.true s.before s.after c.has_one.result c.has_one-in-loop-places.result c.has_one.ensures.value c.has_one-in-loop-places.ensures.value over (le-leb s.after s.before c.if-self.true) c.if-has_one.false ∙ ap (λ (w : ℕ). w ∷ numbers_beside over (L.places - 1) s.before s.after) (sym c.with_one_turned.ensures.value) in
    let k = ap length step in
    let room = L.invariant.room in
    let more = c.push.ensures.len in
    record {
      list = moved L.numbers.items (c.with_one_turned.result ∷ []) (numbers_beside over (L.places - 1) s.before s.after) c.push.ensures.items step ∙ L.invariant.list;
      room = omega arith;
    }

pub loop-places-preserved : goal.loop-places-preserved
loop-places-preserved c =
    let L = c.loop-places in
    let s = c.args.self in
    let over = leb s.after s.before in
    let step = beside_at_shared L.places c.loop-places-test.true s.before s.after c.has_one.result c.has_one-in-loop-places.result c.has_one.ensures.value c.has_one-in-loop-places.ensures.value over (lt-leb s.after s.before c.if-self.false) c.if-has_one.false in
    let k = ap length step in
    let room = L.invariant.room in
    record { list = ap (λ l. L.numbers.items ++ l) (sym step) ∙ L.invariant.list; room = omega arith }
