-- Symbols cut into rows of one width, and joined again.
use Rattle.std.proofs.Common.{◌≡◌, ℕ, zero, suc, ◌+◌, ◌*◌, ◌<◌, List, [], ◌∷◌, ◌++◌, length, get_or, take, drop, sym, refl, ap, ◌∙◌, ap₂, suc-mul, zero-mul, arith}
use Rattle.std.specs.List.{AllByRecursion}
use Rattle.std.proofs.lemmas.List.{length-append, length-take-le, length-drop, take_at, drop_at, drop-drop, take-append-drop, nil_from_length}
use Rattle.covers.specs.Symbols.{Symbols}
use Rattle.sheets.specs.Format.{all_symbols}

-- so many rows of the width
abbrev pub cut : ℕ → ℕ → Symbols → List Symbols
cut width zero all = []
cut width (suc count) all = take width all ∷ cut width count (drop width all)

pub length_cut : (width count : ℕ) (all : Symbols) → length (cut width count all) ≡ count
length_cut width zero all = refl
length_cut width (suc count) all = ap suc (length_cut width count (drop width all))

pub cut_at : (width count : ℕ) (all : Symbols) (i : ℕ) → i < count → get_or (cut width count all) i [] ≡ take width (drop (i * width) all)
cut_at width zero all i h = absurd (omega arith)
cut_at width (suc count) all zero h = ap (λ k. take width (drop k all)) (sym (zero-mul width))
cut_at width (suc count) all (suc i) h =
    let e : width + i * width ≡ suc i * width = let m = suc-mul i width in omega arith in
    cut_at width count (drop width all) i (omega arith) ∙ ap (take width) (drop-drop (i * width) width all ∙ ap (λ k. drop k all) e)

shorter : (width count : ℕ) (all : Symbols) → length all ≡ suc count * width → length (drop width all) ≡ count * width
shorter width count all l = let m = suc-mul count width in let d = length-drop width all in omega arith

pub cut_even : (width count : ℕ) (all : Symbols) → length all ≡ count * width → AllByRecursion (λ r. length r ≡ width) (cut width count all)
cut_even width zero all l = tt
cut_even width (suc count) all l =
    (length-take-le width all (let m = suc-mul count width in omega arith), cut_even width count (drop width all) (shorter width count all l))

pub cut_joined : (width count : ℕ) (all : Symbols) → length all ≡ count * width → all_symbols (cut width count all) ≡ all
cut_joined width zero all l = sym (nil_from_length all (l ∙ zero-mul width))
cut_joined width (suc count) all l = ap (λ r. take width all ++ r) (cut_joined width count (drop width all) (shorter width count all l)) ∙ take-append-drop width all

pub joined_cut : (width : ℕ) (rows : List Symbols) → AllByRecursion (λ r. length r ≡ width) rows → cut width (length rows) (all_symbols rows) ≡ rows
joined_cut width [] even = refl
joined_cut width (r ∷ rows) even =
    ap₂ (λ (a : Symbols) (b : List Symbols). a ∷ b) (take_at r (all_symbols rows) width even.0)
    (ap (cut width (length rows)) (drop_at r (all_symbols rows) width even.0) ∙ joined_cut width rows even.1)

pub length_all : (width : ℕ) (rows : List Symbols) → AllByRecursion (λ r. length r ≡ width) rows → length (all_symbols rows) ≡ length rows * width
length_all width [] even = sym (zero-mul width)
length_all width (r ∷ rows) even =
    let h = length_all width rows even.1 in
    let k = even.0 in
    let l = length-append r (all_symbols rows) in
    let m = suc-mul (length rows) width in
    omega arith
