-- The unbroken stretch up the circle from a number of the set, and down.
use Rattle.std.proofs.Common.{◌≡◌, ℕ, zero, suc, ◌^◌, ◌<◌, ◌≤◌, Bool, true, false, cond, not, sym, refl, ap, ◌∙◌, inl, inr, arith}
use Rattle.std.proofs.lemmas.Bool.{both_ways, and_parts, and_from, not-true, not_from_false, cases_lt}
use Rattle.covers.specs.Rivals.{NumberSet, in_range}
use Rattle.circle.specs.Runs.{before, after, begins, ends, climb, last_from}
use Rattle.circle.specs.Theorems.{Stretch, LastsDetermined}
use Rattle.circle.proofs.Circle.{before_fits, after_fits, ahead, ahead_fits, ahead_self, ahead_same, no_step, ahead_after, ahead_before, ahead_from_after, in_range_le, le_in_range}

module _ (n : ℕ) (S : NumberSet) where
  pub begins_in : (x : ℕ) → begins n S x ≡ true → S x ≡ true
  begins_in x h = (and_parts (S x) (not (S (before n x))) h).0

  pub begins_out : (x : ℕ) → begins n S x ≡ true → S (before n x) ≡ false
  begins_out x h = not-true (S (before n x)) (and_parts (S x) (not (S (before n x))) h).1

  pub begins_from : (x : ℕ) → S x ≡ true → S (before n x) ≡ false → begins n S x ≡ true
  begins_from x h k = and_from (S x) (not (S (before n x))) h (not_from_false (S (before n x)) k)

  pub ends_in : (x : ℕ) → ends n S x ≡ true → S x ≡ true
  ends_in x h = (and_parts (S x) (not (S (after n x))) h).0

  pub ends_out : (x : ℕ) → ends n S x ≡ true → S (after n x) ≡ false
  ends_out x h = not-true (S (after n x)) (and_parts (S x) (not (S (after n x))) h).1

  pub ends_from : (x : ℕ) → S x ≡ true → S (after n x) ≡ false → ends n S x ≡ true
  ends_from x h k = and_from (S x) (not (S (after n x))) h (not_from_false (S (after n x)) k)

  -- an end in the way of a stretch
  pub no_end_before : (f l m : ℕ) → f < 2 ^ n → l < 2 ^ n → m < 2 ^ n → ((x : ℕ) → x < 2 ^ n → in_range f m x ≡ true → S x ≡ true) →
      S (after n l) ≡ false → ahead n f m ≤ ahead n f l
  no_end_before f l m hf hl hm inside out = elim (cases_lt (ahead n f l) (ahead n f m)) [ inl k ↦ absurd (both_ways (S (after n l)) out (met k)) | inr k ↦ k ]
    where
      met : ahead n f l < ahead n f m → S (after n l) ≡ true
      met k =
          let b = ahead_fits n f m hf hm in
          let e = ahead_after n f l hf hl (omega arith) in
          inside (after n l) (after_fits n l) (le_in_range n f m (after n l) hf hm (after_fits n l) (omega arith))

  pub stretch_unique : (f l m : ℕ) → f < 2 ^ n → Stretch n S f l → Stretch n S f m → l ≡ m
  stretch_unique f l m hf s t =
      let h = no_end_before f l m hf s.fits t.fits t.unbroken (ends_out l s.ended) in
      let k = no_end_before f m l hf t.fits s.fits s.unbroken (ends_out m t.ended) in
      ahead_same n f l m hf s.fits t.fits (omega arith)

  -- a number of the range from x to x is x
  just_itself : (x y : ℕ) → x < 2 ^ n → y < 2 ^ n → in_range x x y ≡ true → y ≡ x
  just_itself x y hx hy h =
      let k = in_range_le n x x y hx hx hy h in
      let e = ahead_self n x hx in
      no_step n x y hx hy (omega arith)

  -- one number in the set and one outside it are apart
  apart : (x z : ℕ) → x < 2 ^ n → S x ≡ true → z < 2 ^ n → S z ≡ false → (0 < ahead n x z) × (0 < ahead n z x)
  apart x z hx sx hz sz = (
    elim (cases_lt 0 (ahead n x z)) [ inl p ↦ p | inr p ↦ absurd (differ (sym (no_step n x z hx hz p))) ],
    elim (cases_lt 0 (ahead n z x)) [ inl p ↦ p | inr p ↦ absurd (differ (no_step n z x hz hx p)) ],
  )
    where
      differ : x ≡ z → ⊥
      differ e = both_ways (S x) (ap S e ∙ sz) sx

  -- where some number outside the set is at most k steps up from x, a climb of k steps finds the end
  climb_stretch : (k x z : ℕ) → x < 2 ^ n → S x ≡ true → z < 2 ^ n → S z ≡ false → ahead n x z ≤ k → Stretch n S x (climb k n S x)
  unfolding climb
  climb_stretch zero x z hx sx hz sz h = let a = (apart x z hx sx hz sz).0 in absurd (omega arith)
  climb_stretch (suc k) x z hx sx hz sz h = go (S (after n x)) refl (climb_stretch k (after n x) z (after_fits n x))
    where
      go : (t : Bool) → S (after n x) ≡ t → (S (after n x) ≡ true → z < 2 ^ n → S z ≡ false → ahead n (after n x) z ≤ k → Stretch n S (after n x) (climb k n S (after n x))) →
          Stretch n S x (cond t (climb k n S (after n x)) x)
      go false e ih = record {
        fits = hx;
        ended = ends_from x sx e;
        unbroken = λ y hy r. ap S (just_itself x y hx hy r) ∙ sx;
      }
      go true e ih =
          let near = ahead_from_after n x z hx hz (apart x z hx sx hz sz).0 in
          let s = ih e hz sz (omega arith) in
          record {
            fits = s.fits;
            ended = s.ended;
            unbroken = λ y hy r. more (climb k n S (after n x)) s y hy r;
          }
        where
          more : (l : ℕ) → Stretch n S (after n x) l → (y : ℕ) → y < 2 ^ n → in_range x l y ≡ true → S y ≡ true
          more l s y hy r = elim (cases_lt 0 (ahead n x y)) [
            | inl p ↦
                let q = in_range_le n x l y hx s.fits hy r in
                let a = ahead_from_after n x y hx hy p in
                let b = ahead_from_after n x l hx s.fits (omega arith) in
                s.unbroken y hy (le_in_range n (after n x) l y (after_fits n x) s.fits hy (omega arith))
            | inr p ↦ ap S (no_step n x y hx hy p) ∙ sx
          ]

  -- where a number of the circle is outside the set, `last_from` ends the stretch from any number in it
  pub last_stretch : (f z : ℕ) → f < 2 ^ n → S f ≡ true → z < 2 ^ n → S z ≡ false → Stretch n S f (last_from n S f)
  unfolding last_from
  last_stretch f z hf sf hz sz =
      let h = ahead_fits n f z hf hz in
      climb_stretch (2 ^ n) f z hf sf hz sz (omega arith)

  pub last_of_begin : (f : ℕ) → f < 2 ^ n → begins n S f ≡ true → Stretch n S f (last_from n S f)
  last_of_begin f hf b = last_stretch f (before n f) hf (begins_in f b) (before_fits n f) (begins_out f b)

  pub only_last : (f l : ℕ) → f < 2 ^ n → begins n S f ≡ true → Stretch n S f l → l ≡ last_from n S f
  only_last f l hf b s = stretch_unique f l (last_from n S f) hf s (last_of_begin f hf b)

  -- the begin of the stretch down from x
  pub record Begun (x f : ℕ) : Type 0 where
    pub fits : f < 2 ^ n
    pub begun : begins n S f ≡ true
    pub unbroken : (y : ℕ) → y < 2 ^ n → in_range f x y ≡ true → S y ≡ true

  -- where some number outside the set is at most k steps down from x, the stretch down from x begins somewhere
  descend : (k x z : ℕ) → x < 2 ^ n → S x ≡ true → z < 2 ^ n → S z ≡ false → ahead n z x ≤ k → (f : ℕ) × Begun x f
  descend zero x z hx sx hz sz h = let a = (apart x z hx sx hz sz).1 in absurd (omega arith)
  descend (suc k) x z hx sx hz sz h = go (S (before n x)) refl (descend k (before n x) z (before_fits n x))
    where
      go : (t : Bool) → S (before n x) ≡ t → (S (before n x) ≡ true → z < 2 ^ n → S z ≡ false → ahead n z (before n x) ≤ k → (f : ℕ) × Begun (before n x) f) →
          (f : ℕ) × Begun x f
      go false e ih = (
        x,
        record {
          fits = hx;
          begun = begins_from x sx e;
          unbroken = λ y hy r. ap S (just_itself x y hx hy r) ∙ sx;
        },
      )
      go true e ih =
          let near = ahead_before n z x hz hx (apart x z hx sx hz sz).1 in
          let s = ih e hz sz (omega arith) in (
            s.0,
            record {
              fits = s.1.fits;
              begun = s.1.begun;
              unbroken = λ y hy r. more s.0 s.1 y hy r;
            },
          )
        where
          more : (f : ℕ) → Begun (before n x) f → (y : ℕ) → y < 2 ^ n → in_range f x y ≡ true → S y ≡ true
          more f s y hy r = elim (cases_lt (ahead n f y) (ahead n f x)) [
            | inl p ↦
                let a = ahead_before n f x s.fits hx (omega arith) in
                s.unbroken y hy (le_in_range n f (before n x) y s.fits (before_fits n x) hy (omega arith))
            | inr p ↦
                let q = in_range_le n f x y s.fits hx hy r in
                ap S (ahead_same n f y x s.fits hy hx (omega arith)) ∙ sx
          ]

  -- each number of the set lies in the stretch from some begin
  pub begin_of : (x z : ℕ) → x < 2 ^ n → S x ≡ true → z < 2 ^ n → S z ≡ false → (f : ℕ) × Begun x f
  begin_of x z hx sx hz sz =
      let h = ahead_fits n z x hz hx in
      descend (2 ^ n) x z hx sx hz sz (omega arith)

pub lasts_determined : LastsDetermined
lasts_determined = record { stretches = last_of_begin; no_other = only_last }
