use Rattle.std.proofs.Common.{◌≡◌, ℕ, ◌+◌, ◌-◌, ◌*◌, ◌/◌, ◌%◌, ◌^◌, ◌<◌, ◌≤◌, sym, ap, ap₂, ◌∙◌, subst, add-mul, arith, pow_mono, pow-add}
use lib.Bits.{bit_xor}
use Rattle.std.proofs.lemmas.Nat.{shr_split, shr_below, mul-le}
use Rattle.ranges.proofs.RunLists.{shared_words, left_parted}
use Rattle.ranges.proofs.stretch.Stretch.behind_shared_digits.Goals as goal

-- a number without its last digits leaves room for them
aligned : (n f t : ℕ) → f ≤ t → n < 2 ^ t → n - n % 2 ^ f + 2 ^ f ≤ 2 ^ t
aligned n f t le h =
    let j : t - f + f ≡ t = omega arith in
    let e = ap (λ (x : ℕ). 2 ^ x) j in
    let q : n / 2 ^ f < 2 ^ (t - f) = shr_below n (t - f) f (omega arith) in
    let m = mul-le (n / 2 ^ f + 1) (2 ^ f) (2 ^ (t - f)) (2 ^ f) (omega arith) (omega arith) in
    let d = add-mul (n / 2 ^ f) 1 (2 ^ f) in
    let s = shr_split n f in
    let w = pow-add 2 (t - f) f in
    omega arith

pub overflow_sub-words-2 : goal.overflow_sub-words-2
overflow_sub-words-2 c =
    let rest = c.last_places-rest.ensures in
    let apart = c.places_apart-apart.ensures in
    let m = pow_mono {i = c.last_places-rest.result.places} {j = c.args.self.ends.places} (let p = rest.places in omega arith) in
    let a = c.limit.ensures.value in
    let b = c.limit-2.ensures.value in
    omega arith

pub invariant_of-front : goal.invariant_of-front
invariant_of-front c =
    let s = c.args.self in
    let r = c.last_places-rest.result in
    let rest = c.last_places-rest.ensures in
    let apart = c.places_apart-apart.ensures in
    let le : r.places ≤ s.ends.places = let p = rest.places in omega arith in
    let a = c.limit.ensures.value in
    let b = c.limit-2.ensures.value in
    let f = rest.first ∙ ap (λ (k : ℕ). s.ends.first % 2 ^ k) (sym rest.places) in
    let t = ap (λ (k : ℕ). 2 ^ k) s.fits in
    let room = aligned s.ends.first r.places s.ends.places le s.ends.first_within in
    let m = pow_mono {i = r.places} {j = s.ends.places} le in
    let v = s.front.value_free in
    let w = s.front.care_free in
    record { places_within = r.places_within; value_free = omega arith; care_free = omega arith }

pub returns : goal.returns
returns c =
    let s = c.args.self in
    let r = c.last_places-rest.result in
    let rest = c.last_places-rest.ensures in
    let apart = c.places_apart-apart.ensures in
    let le : r.places ≤ s.ends.places = let p = rest.places in omega arith in
    let a = c.limit.ensures.value in
    let b = c.limit-2.ensures.value in
    let f = rest.first ∙ ap (λ (k : ℕ). s.ends.first % 2 ^ k) (sym rest.places) in
    let l = rest.last ∙ ap (λ (k : ℕ). s.ends.last % 2 ^ k) (sym rest.places) in
    let o = c.requires.ordered in
    let alike = subst (λ (k : ℕ). s.ends.first / 2 ^ k ≡ s.ends.last / 2 ^ k) (sym rest.places) apart.alike_before in
    let long = subst (λ (k : ℕ). 2 ^ k ≤ 2 * bit_xor s.ends.first s.ends.last + 1) (sym rest.places) apart.apart in
    let parts = left_parted r.places s.ends.first s.ends.last o alike long in
    record {
      same = shared_words s _ r le o alike f l (ap (λ (k : ℕ). s.front.words.value + (s.ends.first - k)) f) (ap₂ (λ (j k : ℕ). s.front.words.care + (j - k)) a b);
      parted = λ some. (subst (λ (k : ℕ). k < 2 ^ (r.places - 1)) (sym f) (parts some).0, subst (λ (k : ℕ). 2 ^ (r.places - 1) ≤ k) (sym l) (parts some).1);
    }
