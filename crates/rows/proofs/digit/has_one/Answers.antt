use Rattle.std.proofs.Common.{◌≡◌, ℕ, ◌/◌, ◌^◌, ◌<◌, ◌≤◌, false, sym, ◌∙◌, arith, pow_pos, pow_mono}
use Rattle.std.proofs.lemmas.Nat.{div_below}
use Rattle.std.proofs.lemmas.Bool.{le-ltb}
use Rattle.covers.specs.Digits.{digit}
use Rattle.rows.proofs.digit.has_one.Goals as goal

-- a word has no digit beyond its places
beyond : (word place : ℕ) → word < 2 ^ 64 → 64 ≤ place → digit place word ≡ false
beyond word place h k =
    let p = pow_mono {i = 64} {j = place} k in
    let few = div_below word (2 ^ place) 1 (pow_pos place) (omega arith) in
    let none : word / 2 ^ place ≡ 0 = omega arith in
    rw none

pub returns-else-place-lt64 : goal.returns-else-place-lt64
returns-else-place-lt64 c =
    record { value = le-ltb c.args.place 64 c.if-place-lt64.false ∙ sym (beyond c.args.number c.args.place (omega arith) c.if-place-lt64.false) }
