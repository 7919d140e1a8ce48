use Rattle.std.proofs.Common.{◌≡◌, ℕ, ◌+◌, ◌*◌, ◌/◌, ◌%◌, ◌^◌, ◌≤◌, sym, ap, ◌∙◌, arith, pow_mono}
use Rattle.layers.specs.Turns.{turned}
use Rattle.layers.specs.TurnLaws.{turned_fits}
use Rattle.layers.proofs.Turning.{turned_none, turned_more}
use Rattle.layers.proofs.turn.read_backwards.Goals as goal

pub loop-place-init : goal.loop-place-init
loop-place-init c = (sym (turned_none c.args.word), omega arith)

pub loop-place-preserved : goal.loop-place-preserved
loop-place-preserved c =
    let i = c.loop-place.place in
    let word = c.args.word in
    let few : i + 1 ≤ 32 = let p = c.places-places.ensures.high_bound in omega arith in
    let e = ap (λ (k : ℕ). k * 2 + word / 2 ^ i % 2) c.loop-place.invariant.0 ∙ sym (turned_more i word) in
    let f = turned_fits (i + 1) word in
    let m = pow_mono {i = i + 1} {j = 32} few in
    (e, omega arith)

pub returns : goal.returns
returns c =
    let e : c.loop-place.place ≡ c.places-places.result = omega arith in
    record {
      value = c.loop-place.invariant.0 ∙ ap (λ (k : ℕ). turned k c.args.word) (e ∙ c.places-places.ensures.value);
      fits = c.loop-place.invariant.1;
    }
