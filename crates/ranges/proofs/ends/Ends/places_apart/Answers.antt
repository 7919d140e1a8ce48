use Rattle.std.proofs.Common.{◌≡◌, ℕ, ◌+◌, ◌-◌, ◌*◌, ◌^◌, ◌<◌, ◌≤◌, subst, arith, pow_mono}
use lib.Bits.{bit_xor, xor_lt}
use lib.Count.{count_leading_zeros}
use Rattle.std.proofs.lemmas.Nat.{leading_length}
use Rattle.ranges.proofs.RunLists.{same_before, short_power}
use Rattle.ranges.proofs.ends.Ends.places_apart.Goals as goal

-- the length of the exclusive or
lengths : (p a b : ℕ) → p ≤ 64 → a < 2 ^ p → b < 2 ^ p →
    (64 - count_leading_zeros 64 (bit_xor a b) ≤ p) × (bit_xor a b < 2 ^ (64 - count_leading_zeros 64 (bit_xor a b))) × (2 ^ (64 - count_leading_zeros 64 (bit_xor a b)) ≤ 2 * bit_xor a b + 1)
lengths p a b le ha hb =
    let m = pow_mono {i = p} {j = 64} le in
    let x = xor_lt p a b ha hb in
    go x (leading_length 64 (bit_xor a b) (omega arith))
  where
    go : bit_xor a b < 2 ^ p → (m : ℕ) × (count_leading_zeros 64 (bit_xor a b) + m ≡ 64) × (bit_xor a b < 2 ^ m) × (2 ^ m ≤ 2 * bit_xor a b + 1) →
        (64 - count_leading_zeros 64 (bit_xor a b) ≤ p) × (bit_xor a b < 2 ^ (64 - count_leading_zeros 64 (bit_xor a b))) × (2 ^ (64 - count_leading_zeros 64 (bit_xor a b)) ≤ 2 * bit_xor a b + 1)
    go x (m, e, h, k) =
        let is : m ≡ 64 - count_leading_zeros 64 (bit_xor a b) = omega arith in
        let short : m ≤ p = short_power m p (bit_xor a b) k x in
        (omega arith, subst (λ j. bit_xor a b < 2 ^ j) is h, subst (λ j. 2 ^ j ≤ 2 * bit_xor a b + 1) is k)

pub returns : goal.returns
returns c =
    let s = c.args.self in
    let l = lengths s.places s.first s.last (let h = s.places_within in omega arith) s.first_within s.last_within in
    record { bound = l.0; alike_before = same_before s.first s.last _ l.1; apart = l.2 }
