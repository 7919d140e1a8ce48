-- Runs written one after the other for a list of candidates.
use Rattle.std.proofs.Common.{◌≡◌, ℕ, suc, ◌+◌, ◌<◌, ◌≤◌, min, Bool, true, false, cond, ltb, List, [], ◌∷◌, ◌++◌, map, length, get_or, take, drop, filter, sym, ap, ◌∙◌, ap₂, arith}
use Rattle.std.proofs.lemmas.List.Elements.{filter-append, filter_more}
use Rattle.std.proofs.lemmas.List.{append-nil, append_assoc, length-append, length-map, length_push, get_or-map, map-append, length-take, take_all, take-append-drop}
use Rattle.circle.specs.Runs.{begins}
use Rattle.rows.specs.declared.range.Range.{Range}
use Rattle.rows.specs.declared.edit.Edit.{Edit}
use Rattle.run_table.specs.NewRuns.{firsts_of, new_lasts, run_from, runs_at, set_after}
use Rattle.run_table.proofs.Candidates.{not_both}
use Rattle.rows.proofs.Ranges.{no_range}

-- how many a filter keeps
pub kept_few : (p : ℕ → Bool) (l : List ℕ) → length (filter p l) ≤ length l
kept_few p [] = omega arith
kept_few p (x ∷ l) = go (p x) (kept_few p l)
  where
    go : (t : Bool) → length (filter p l) ≤ length l → length (cond t (x ∷ filter p l) (filter p l)) ≤ suc (length l)
    go true h = omega arith
    go false h = omega arith

module _ (n : ℕ) (e : Edit) (R : List Range) where
  pub runs_at_one : (f : ℕ) → begins n (set_after R e) f ≡ true → runs_at n e R (f ∷ []) ≡ run_from n (set_after R e) (new_lasts n e R) f ∷ []
  runs_at_one f b = ap (λ t. map (run_from n (set_after R e) (new_lasts n e R)) (cond t (f ∷ []) [])) b

  runs_at_append : (l k : List ℕ) → runs_at n e R (l ++ k) ≡ runs_at n e R l ++ runs_at n e R k
  runs_at_append l k =
      ap (map (run_from n (set_after R e) (new_lasts n e R))) (filter-append (begins n (set_after R e)) l k) ∙
      map-append (run_from n (set_after R e) (new_lasts n e R)) (filter (begins n (set_after R e)) l) (filter (begins n (set_after R e)) k)

  -- one candidate more
  pub runs_at_more : (out more : List Range) (l : List ℕ) (f : ℕ) → out ≡ runs_at n e R l → more ≡ out ++ runs_at n e R (f ∷ []) → more ≡ runs_at n e R (l ++ f ∷ [])
  runs_at_more out more l f w q = q ∙ ap (λ x. x ++ runs_at n e R (f ∷ [])) w ∙ sym (runs_at_append l (f ∷ []))

  pub runs_at_few : (l : List ℕ) → length (runs_at n e R l) ≤ length l
  runs_at_few l =
      let k = kept_few (begins n (set_after R e)) l in
      let m = length-map (filter (begins n (set_after R e)) l) (run_from n (set_after R e) (new_lasts n e R)) in
      omega arith

-- a filter, one element on
module _ (p : ℕ → Bool) (R : List Range) (i : ℕ) (h : i < length R) where
  at_first : get_or (firsts_of R) i 0 ≡ (get_or R i no_range).first
  at_first = get_or-map (λ r. r.first) R i no_range 0 h

  inside : i < length (firsts_of R)
  inside = let e = length-map R (λ r. r.first) in omega arith

  pub filter_takes : p (get_or R i no_range).first ≡ true → filter p (take (i + 1) (firsts_of R)) ≡ filter p (take i (firsts_of R)) ++ (get_or R i no_range).first ∷ []
  filter_takes b =
      filter_more p (firsts_of R) i 0 inside ∙
      ap₂ (λ (t : Bool) (x : ℕ). filter p (take i (firsts_of R)) ++ cond t (x ∷ []) []) (ap p at_first ∙ b) at_first

  pub filter_leaves : p (get_or R i no_range).first ≡ false → filter p (take (i + 1) (firsts_of R)) ≡ filter p (take i (firsts_of R))
  filter_leaves b =
      filter_more p (firsts_of R) i 0 inside ∙
      ap (λ (t : Bool). filter p (take i (firsts_of R)) ++ cond t (get_or (firsts_of R) i 0 ∷ []) []) (ap p at_first ∙ b) ∙
      append-nil (filter p (take i (firsts_of R)))

pub front_few : (p : ℕ → Bool) (i : ℕ) (R : List Range) → length (filter p (take i (firsts_of R))) ≤ min i (length R)
front_few p i R =
    let a = kept_few p (take i (firsts_of R)) in
    let b = length-take i (firsts_of R) in
    let e = length-map R (λ r. r.first) in
    omega arith

-- the whole list is its front
pub all_firsts : (R : List Range) (i : ℕ) → length R ≤ i → take i (firsts_of R) ≡ firsts_of R
all_firsts R i h = let e = length-map R (λ r. r.first) in take_all i (firsts_of R) (omega arith)

pub kept_front : (p : ℕ → Bool) (i : ℕ) (l : List ℕ) → length (filter p (take i l)) ≤ length (filter p l)
kept_front p i l =
    let e = ap (λ k. length (filter p k)) (take-append-drop i l) in
    let a = ap length (filter-append p (take i l) (drop i l)) in
    let b = length-append (filter p (take i l)) (filter p (drop i l)) in
    omega arith

-- the candidates so far are at most one more than the runs
module _ (x : ℕ) (R : List Range) where
  abbrev pub so_far : ℕ → List ℕ
  so_far i = filter (λ f. ltb f x) (firsts_of R) ++ x ∷ filter (λ f. ltb x f) (take i (firsts_of R))

  so_far_length : (i : ℕ) → length (so_far i) ≡ length (filter (λ f. ltb f x) (firsts_of R)) + suc (length (filter (λ f. ltb x f) (take i (firsts_of R))))
  so_far_length i = length-append (filter (λ f. ltb f x) (firsts_of R)) (x ∷ filter (λ f. ltb x f) (take i (firsts_of R)))

  pub so_far_few : (i : ℕ) → length (so_far i) ≤ length R + 1
  so_far_few i =
      let a = so_far_length i in
      let b = kept_front (λ f. ltb x f) i (firsts_of R) in
      let k = not_both x (firsts_of R) in
      let m = length-map R (λ r. r.first) in
      omega arith

  pub so_far_takes : (i : ℕ) → i < length R → ltb x (get_or R i no_range).first ≡ true → so_far (i + 1) ≡ so_far i ++ (get_or R i no_range).first ∷ []
  so_far_takes i h b =
      ap (λ k. filter (λ f. ltb f x) (firsts_of R) ++ x ∷ k) (filter_takes (λ f. ltb x f) R i h b) ∙
      sym (append_assoc (filter (λ f. ltb f x) (firsts_of R)) (x ∷ filter (λ f. ltb x f) (take i (firsts_of R))) ((get_or R i no_range).first ∷ []))

  pub so_far_leaves : (i : ℕ) → i < length R → ltb x (get_or R i no_range).first ≡ false → so_far (i + 1) ≡ so_far i
  so_far_leaves i h b = ap (λ k. filter (λ f. ltb f x) (firsts_of R) ++ x ∷ k) (filter_leaves (λ f. ltb x f) R i h b)

  -- before one that is taken there is room for it
  pub so_far_room : (i : ℕ) → i < length R → ltb x (get_or R i no_range).first ≡ true → length (so_far i) ≤ length R
  so_far_room i h b =
      let a = ap length (so_far_takes i h b) ∙ length_push (so_far i) (get_or R i no_range).first in
      let k = so_far_few (i + 1) in
      omega arith
