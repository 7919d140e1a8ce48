-- Where runs begin and end after an edit.
use Rattle.std.proofs.Common.{◌≡◌, ℕ, ◌-◌, ◌^◌, ◌<◌, Bool, true, false, cond, not, ◌&&◌, ◌||◌, ltb, ◌⊎◌, List, [], ◌∷◌, map, sym, refl, ap, ◌∙◌, inl, inr, arith}
use Rattle.std.proofs.lemmas.Bool.{both_ways, ltb-true, cases_lt, and_parts, and_cases, or_cases, or_parts, not-true, not-false}
use Rattle.covers.specs.Rivals.{NumberSet, in_range}
use Rattle.circle.specs.Runs.{before, after, begins, ends, passing, whole, last_from, runs}
use Rattle.circle.proofs.Ascending.{In, passing_has, whole_true}
use Rattle.circle.proofs.Circle.{before_fits, after_fits, before_cases, after_cases, ahead, ahead_fits, ahead_self, ahead_same, no_step, ahead_before, ahead_after, in_range_le, le_in_range}
use Rattle.circle.proofs.Stretches.{begins_in, begins_out, begins_from, ends_in, ends_out, ends_from, only_last, begin_of}
use Rattle.rows.specs.declared.edit.Edit.{Edit}
use Rattle.rows.specs.declared.edit.Edit.TheVariants.{Add, Drop}
use Rattle.rows.specs.Edits.{edited, edit_in_width}
use Rattle.run_table.specs.NewRuns.{first_candidate, last_candidate}

pub ends_fit : (n f l : ℕ) → (ltb f (2 ^ n) && ltb l (2 ^ n)) ≡ true → (f < 2 ^ n) × (l < 2 ^ n)
ends_fit n f l w = let p = and_parts (ltb f (2 ^ n)) (ltb l (2 ^ n)) w in (ltb-true f (2 ^ n) p.0, ltb-true l (2 ^ n) p.1)

-- the edges of a range
module _ (n f l : ℕ) (hf : f < 2 ^ n) (hl : l < 2 ^ n) where
  pub first_inside : in_range f l f ≡ true
  first_inside = let o = ahead_self n f hf in le_in_range n f l f hf hl hf (omega arith)

  -- the range is entered at its first number
  entered : (x : ℕ) → x < 2 ^ n → in_range f l x ≡ true → in_range f l (before n x) ≡ false → x ≡ f
  entered x hx i o = elim (cases_lt 0 (ahead n f x)) [ inl k ↦ absurd (both_ways (in_range f l (before n x)) o (still k)) | inr k ↦ no_step n f x hf hx k ]
    where
      still : 0 < ahead n f x → in_range f l (before n x) ≡ true
      still k =
          let a = ahead_before n f x hf hx k in
          let b = in_range_le n f l x hf hl hx i in
          le_in_range n f l (before n x) hf hl (before_fits n x) (omega arith)

  -- and left after its last
  left : (x : ℕ) → x < 2 ^ n → in_range f l x ≡ true → in_range f l (after n x) ≡ false → x ≡ l
  left x hx i o = elim (cases_lt (ahead n f x) (ahead n f l)) [
    | inl k ↦ absurd (both_ways (in_range f l (after n x)) o (still k))
    | inr k ↦ (let b = in_range_le n f l x hf hl hx i in ahead_same n f x l hf hx hl (omega arith))
  ]
    where
      still : ahead n f x < ahead n f l → in_range f l (after n x) ≡ true
      still k =
          let m = ahead_fits n f l hf hl in
          let a = ahead_after n f x hf hx (omega arith) in
          le_in_range n f l (after n x) hf hl (after_fits n x) (omega arith)

-- there and back
pub after_before : (n x : ℕ) → x < 2 ^ n → after n (before n x) ≡ x
after_before n x hx = let p = before_cases n x hx in let q = after_cases n (before n x) (before_fits n x) in omega arith

pub before_after : (n x : ℕ) → x < 2 ^ n → before n (after n x) ≡ x
before_after n x hx = let p = after_cases n x hx in let q = before_cases n (after n x) (after_fits n x) in omega arith

-- an edit makes at most one new begin and one new end
module _ (n f l : ℕ) (hf : f < 2 ^ n) (hl : l < 2 ^ n) (S : NumberSet) (x : ℕ) (hx : x < 2 ^ n) where
  added_begin : begins n (edited (Add (record { first = f; last = l })) S) x ≡ true → (begins n S x ≡ true) ⊎ (x ≡ f)
  added_begin b =
      let out = or_parts (S (before n x)) (in_range f l (before n x)) (begins_out n (edited (Add (record { first = f; last = l })) S) x b) in
      elim (or_cases (S x) (in_range f l x) (begins_in n (edited (Add (record { first = f; last = l })) S) x b)) [
        | inl s ↦ inl (begins_from n S x s out.0)
        | inr i ↦ inr (entered n f l hf hl x hx i out.1)
      ]

  added_end : ends n (edited (Add (record { first = f; last = l })) S) x ≡ true → (ends n S x ≡ true) ⊎ (x ≡ l)
  added_end b =
      let out = or_parts (S (after n x)) (in_range f l (after n x)) (ends_out n (edited (Add (record { first = f; last = l })) S) x b) in
      elim (or_cases (S x) (in_range f l x) (ends_in n (edited (Add (record { first = f; last = l })) S) x b)) [
        | inl s ↦ inl (ends_from n S x s out.0)
        | inr i ↦ inr (left n f l hf hl x hx i out.1)
      ]

  dropped_begin : begins n (edited (Drop (record { first = f; last = l })) S) x ≡ true → (begins n S x ≡ true) ⊎ (x ≡ after n l)
  dropped_begin b =
      let inside = and_parts (S x) (not (in_range f l x)) (begins_in n (edited (Drop (record { first = f; last = l })) S) x b) in
      elim (and_cases (S (before n x)) (not (in_range f l (before n x))) (begins_out n (edited (Drop (record { first = f; last = l })) S) x b)) [
        | inl s ↦ inl (begins_from n S x inside.0 s)
        | inr i ↦
            let back = after_before n x hx in
            let o = ap (in_range f l) back ∙ not-true (in_range f l x) inside.1 in
            inr (sym back ∙ ap (after n) (left n f l hf hl (before n x) (before_fits n x) (not-false (in_range f l (before n x)) i) o))
      ]

  dropped_end : ends n (edited (Drop (record { first = f; last = l })) S) x ≡ true → (ends n S x ≡ true) ⊎ (x ≡ before n f)
  dropped_end b =
      let inside = and_parts (S x) (not (in_range f l x)) (ends_in n (edited (Drop (record { first = f; last = l })) S) x b) in
      elim (and_cases (S (after n x)) (not (in_range f l (after n x))) (ends_out n (edited (Drop (record { first = f; last = l })) S) x b)) [
        | inl s ↦ inl (ends_from n S x inside.0 s)
        | inr i ↦
            let back = before_after n x hx in
            let o = ap (in_range f l) back ∙ not-true (in_range f l x) inside.1 in
            inr (sym back ∙ ap (before n) (entered n f l hf hl (after n x) (after_fits n x) (not-false (in_range f l (after n x)) i) o))
      ]

-- the firsts of the runs are the begins, and the lasts are the ends
module _ (n : ℕ) (S : NumberSet) where
  runs_listed : (z : ℕ) → z < 2 ^ n → S z ≡ false → runs n S ≡ map (λ f. (f, last_from n S f)) (passing (begins n S) (2 ^ n))
  unfolding runs
  runs_listed z hz sz = go (whole n S) refl
    where
      go : (t : Bool) → whole n S ≡ t → cond {A = List (ℕ × ℕ)} t ((0, 2 ^ n - 1) ∷ []) (map (λ f. (f, last_from n S f)) (passing (begins n S) (2 ^ n))) ≡ map (λ f. (f, last_from n S f)) (passing (begins n S) (2 ^ n))
      go true e = absurd (both_ways (S z) sz (whole_true n S e z hz))
      go false e = refl

  in_firsts : (g : ℕ → ℕ) (x : ℕ) (l : List ℕ) → In x l → In x (map (λ (r : ℕ × ℕ). r.0) (map (λ f. (f, g f)) l))
  in_firsts g x [] i = absurd i
  in_firsts g x (y ∷ l) (inl e) = inl e
  in_firsts g x (y ∷ l) (inr i) = inr (in_firsts g x l i)

  in_lasts : (g : ℕ → ℕ) (x : ℕ) (l : List ℕ) → In x l → In (g x) (map (λ (r : ℕ × ℕ). r.1) (map (λ f. (f, g f)) l))
  in_lasts g x [] i = absurd i
  in_lasts g x (y ∷ l) (inl e) = inl (ap g e)
  in_lasts g x (y ∷ l) (inr i) = inr (in_lasts g x l i)

  pub begin_listed : (x : ℕ) → x < 2 ^ n → begins n S x ≡ true → In x (map (λ r. r.0) (runs n S))
  begin_listed x hx b =
      rw (runs_listed (before n x) (before_fits n x) (begins_out n S x b))
      (in_firsts (last_from n S) x (passing (begins n S) (2 ^ n)) (passing_has (begins n S) (2 ^ n) x hx b))

  pub end_listed : (x : ℕ) → x < 2 ^ n → ends n S x ≡ true → In x (map (λ r. r.1) (runs n S))
  end_listed x hx e =
      let o = ends_out n S x e in
      let b = begin_of n S x (after n x) hx (ends_in n S x e) (after_fits n x) o in
      let is = only_last n S b.0 x b.1.fits b.1.begun (record { fits = hx; ended = e; unbroken = b.1.unbroken }) in
      rw (runs_listed (after n x) (after_fits n x) o)
      (rw is (in_lasts (last_from n S) b.0 (passing (begins n S) (2 ^ n)) (passing_has (begins n S) (2 ^ n) b.0 b.1.fits b.1.begun)))

-- for either kind of edit
pub new_begin : (n : ℕ) (e : Edit) (S : NumberSet) (x : ℕ) → edit_in_width n e ≡ true → x < 2 ^ n → begins n (edited e S) x ≡ true → (begins n S x ≡ true) ⊎ (x ≡ first_candidate n e)
new_begin n (Add r) S x w hx b = let p = ends_fit n r.first r.last w in added_begin n r.first r.last p.0 p.1 S x hx b
new_begin n (Drop r) S x w hx b = let p = ends_fit n r.first r.last w in dropped_begin n r.first r.last p.0 p.1 S x hx b

pub new_end : (n : ℕ) (e : Edit) (S : NumberSet) (x : ℕ) → edit_in_width n e ≡ true → x < 2 ^ n → ends n (edited e S) x ≡ true → (ends n S x ≡ true) ⊎ (x ≡ last_candidate n e)
new_end n (Add r) S x w hx b = let p = ends_fit n r.first r.last w in added_end n r.first r.last p.0 p.1 S x hx b
new_end n (Drop r) S x w hx b = let p = ends_fit n r.first r.last w in dropped_end n r.first r.last p.0 p.1 S x hx b

pub first_candidate_fits : (n : ℕ) (e : Edit) → edit_in_width n e ≡ true → first_candidate n e < 2 ^ n
first_candidate_fits n (Add r) w = (ends_fit n r.first r.last w).0
first_candidate_fits n (Drop r) w = after_fits n r.last

pub last_candidate_fits : (n : ℕ) (e : Edit) → edit_in_width n e ≡ true → last_candidate n e < 2 ^ n
last_candidate_fits n (Add r) w = (ends_fit n r.first r.last w).1
last_candidate_fits n (Drop r) w = before_fits n r.first

-- sets with the same numbers have the same numbers after an edit
pub edited_same : (e : Edit) (S T : NumberSet) (x : ℕ) → S x ≡ T x → edited e S x ≡ edited e T x
edited_same (Add r) S T x h = ap (λ b. b || in_range r.first r.last x) h
edited_same (Drop r) S T x h = ap (λ b. b && not (in_range r.first r.last x)) h
