-- The list of 0a to 1b, rule by rule, as words behind the lead.
use Rattle.std.proofs.Common.{◌≡◌, ℕ, suc, ◌+◌, ◌-◌, ◌^◌, ◌<◌, ◌≤◌, Bool, true, false, List, [], ◌∷◌, ◌++◌, map, length, sym, refl, ap, ◌∙◌, ap₂, inl, inr, arith, pow_pos, length-append}
use Rattle.std.proofs.lemmas.List.{map-append, length-map}
use Rattle.std.proofs.lemmas.Bool.{cases_lt, le-leb, false≢true}
use Rattle.covers.specs.declared.symbol.Symbol.{Symbol}
use Rattle.covers.specs.declared.symbol.Symbol.TheVariants.{Zero, One, Dash}
use Rattle.covers.specs.Digits.{digit, digits}
use Rattle.covers.specs.Symbols.{Symbols, list_takes}
use Rattle.covers.specs.Rules.{swap, below, insert, widen, behind, straight_rows, rows_of_run}
use Rattle.covers.specs.RuleEquations.{plain}
use Rattle.covers.specs.Rivals.{in_range}
use Rattle.covers.specs.Theorems.{Run}
use Rattle.covers.proofs.Exactness.{run_exact}
use Rattle.covers.proofs.Equations.{equations_hold, plain_digits, swap_dashes}
use Rattle.covers.proofs.Numbers.{digits_1}
use Rattle.covers.proofs.RowLengths.{Long, straight_rows_long}
use Rattle.rows.specs.declared.row_words.RowWords.{RowWords}
use Rattle.ranges.specs.declared.front.Front.{Front}
use Rattle.ranges.specs.declared.lead.Lead.{Lead}
use Rattle.ranges.specs.declared.ends.Ends.{Ends}
use Rattle.ranges.specs.declared.across.Across.{Across}
use Rattle.ranges.specs.Building.{behind_words, behind_lead, across_rows, across_words, edge_list, zero_words, one_words, WithDigit, Extended, Inserted, WithDigits, Widened, Split}
use Rattle.ranges.proofs.SplitEnds.{first_one, first_zero, last_one, last_zero, halves}
use Rattle.ranges.proofs.Fronts.{symbol, extended_row, plain_behind, digit_behind, at_place}
use Rattle.ranges.proofs.EdgeLists.{swap_behind, edge_whole, turned_long, extend}

-- rows that all begin alike
abbrev front_of : Lead → Symbol → RowWords
front_of lead Zero = lead.zero.words
front_of lead One = lead.one.words
front_of lead Dash = lead.dash.words

lead_first : (lead : Lead) (s : Symbol) (r : Symbols) → behind_lead lead (s ∷ r) ≡ behind_words (front_of lead s) r
lead_first lead Zero r = refl
lead_first lead One r = refl
lead_first lead Dash r = refl

pub lead_rows : (lead : Lead) (s : Symbol) (rows : List Symbols) → map (behind_lead lead) (map (λ r. s ∷ r) rows) ≡ map (behind_words (front_of lead s)) rows
lead_rows lead s [] = refl
lead_rows lead s (r ∷ rows) = ap₂ (λ (w : RowWords) (l : List RowWords). w ∷ l) (lead_first lead s r) (lead_rows lead s rows)

two_rows : (lead : Lead) (s : Symbol) (d : Bool) (front : RowWords) (m : ℕ) → WithDigit (front_of lead s) front m d → (rows : List Symbols) → Long m rows →
    map (behind_lead lead) (behind s (symbol d) rows) ≡ map (behind_words front) rows
two_rows lead s d front m x [] h = refl
two_rows lead s d front m x (r ∷ rows) h =
    ap₂ (λ (w : RowWords) (l : List RowWords). w ∷ l) (lead_first lead s (symbol d ∷ r) ∙ extended_row (front_of lead s) front m d x r h.0) (two_rows lead s d front m x rows h.1)

two_dashes : (lead : Lead) (s : Symbol) (d : Bool) (front : RowWords) (m : ℕ) → WithDigit (front_of lead s) front m d → behind_lead lead (s ∷ symbol d ∷ plain m) ≡ front
two_dashes lead s d front m x = lead_first lead s (symbol d ∷ plain m) ∙ digit_behind (front_of lead s) front m d x

-- the rows of the inner list, whose lead is one place shorter
module _ (lead inner : Lead) (m : ℕ) (places : lead.dash.places ≡ suc m) where
  inserted_row : (d : Bool) → Inserted lead inner d → (r : Symbols) → length r ≡ suc m → behind_lead lead (insert (symbol d) r) ≡ behind_lead inner r
  inserted_row d x [] e = let z : ⊥ = omega arith in absurd z
  inserted_row d x (Zero ∷ r) e = extended_row _ _ m d (at_place x.at_zero m (lead.zero_alike ∙ places)) r (omega arith)
  inserted_row d x (One ∷ r) e = extended_row _ _ m d (at_place x.at_one m (lead.one_alike ∙ places)) r (omega arith)
  inserted_row d x (Dash ∷ r) e = extended_row _ _ m d (at_place x.at_dash m places) r (omega arith)

  widened_row : Widened lead inner → (r : Symbols) → length r ≡ suc m → behind_lead lead (widen r) ≡ behind_lead inner r
  widened_row x [] e = let z : ⊥ = omega arith in absurd z
  widened_row x (Zero ∷ r) e = extended_row _ _ m false (at_place x.at_zero m places) r (omega arith)
  widened_row x (One ∷ r) e = ap (λ f. behind_words f r) (sym x.at_one)
  widened_row x (Dash ∷ r) e = ap (λ f. behind_words f r) (sym x.at_dash)

through : (lead inner : Lead) (m : ℕ) (f : Symbols → Symbols) → ((r : Symbols) → length r ≡ m → behind_lead lead (f r) ≡ behind_lead inner r) → (rows : List Symbols) → Long m rows →
    map (behind_lead lead) (map f rows) ≡ map (behind_lead inner) rows
through lead inner m f g [] h = refl
through lead inner m f g (r ∷ rows) h = ap₂ (λ (w : RowWords) (l : List RowWords). w ∷ l) (g r h.0) (through lead inner m f g rows h.1)

-- the ends
pub lowest_list : (m b : ℕ) → straight_rows m 0 b ≡ edge_list m (b + 1) false
unfolding edge_list
lowest_list m b = let e : b ≡ b + 1 - 1 = omega arith in ap (straight_rows m 0) e

pub highest_list : (m a : ℕ) → a < 2 ^ m → straight_rows m a (2 ^ m - 1) ≡ edge_list m (2 ^ m - a) true
unfolding edge_list
highest_list m a h = elim (cases_lt 0 a) [
  | inl p ↦ let e : 2 ^ m - 1 - a ≡ 2 ^ m - a - 1 = omega arith in equations_hold.to_highest m a p h ∙ ap (λ k. map (map swap) (straight_rows m 0 k)) e
  | inr p ↦
      let z : a ≡ 0 = omega arith in
      let w : 2 ^ m - a ≡ 2 ^ m = omega arith in
      ap (λ k. straight_rows m k (2 ^ m - 1)) z ∙ equations_hold.whole m ∙ sym (edge_whole m (2 ^ m - a) true w)
]

pub edge_long : (m count : ℕ) (e : Bool) → Long m (edge_list m count e)
unfolding edge_list
edge_long m count e = turned_long e m (straight_rows m 0 (count - 1)) (straight_rows_long m 0 (count - 1))

-- every number: one row of dashes
pub whole_rows : (lead : Lead) (m : ℕ) → map (behind_lead lead) (across_rows m 0 (2 ^ m - 1)) ≡ lead.dash.words ∷ []
unfolding across_rows
whole_rows lead m =
    let p = pow_pos m in
    let e : 2 ^ m + (2 ^ m - 1) ≡ 2 ^ suc m - 1 = omega arith in
    ap (λ k. map (behind_lead lead) (straight_rows (suc m) 0 k)) e ∙ ap (map (behind_lead lead)) (equations_hold.whole (suc m)) ∙
    ap {B = List RowWords} (λ w. w ∷ []) (plain_behind lead.dash.words m)

-- from 0: the row of all that begin with 0, and the lowest of those that begin with 1
from_zero_list : (m b : ℕ) → b + 1 < 2 ^ m → across_rows m 0 b ≡ (Zero ∷ plain m) ∷ map (λ r. One ∷ r) (edge_list m (b + 1) false)
unfolding across_rows
from_zero_list m b h =
    let e : 2 ^ m + b + 1 ≡ 2 ^ m + (b + 1) = omega arith in
    equations_hold.from_zero (suc m) (2 ^ m + b) (omega arith) ∙ ap (λ k. below (digits (suc m) k)) e ∙ ap below (digits_1 m (b + 1) h) ∙
    ap₂ (λ (r : Symbols) (l : List Symbols). (Zero ∷ r) ∷ map (λ q. One ∷ q) l) (plain_digits m (b + 1)) (sym (equations_hold.from_zero m b h) ∙ lowest_list m b)

pub from_zero_rows : (lead : Lead) (m b : ℕ) → b + 1 < 2 ^ m → map (behind_lead lead) (across_rows m 0 b) ≡ lead.zero.words ∷ map (behind_words lead.one.words) (edge_list m (b + 1) false)
from_zero_rows lead m b h =
    ap (map (behind_lead lead)) (from_zero_list m b h) ∙
    ap₂ (λ (w : RowWords) (l : List RowWords). w ∷ l) (plain_behind lead.zero.words m) (lead_rows lead One (edge_list m (b + 1) false))

-- to the highest number: the row of all that begin with 1, and the highest of those that begin with 0
pub to_highest_rows : (lead : Lead) (m a : ℕ) → 0 < a → a < 2 ^ m → map (behind_lead lead) (across_rows m a (2 ^ m - 1)) ≡ lead.one.words ∷ map (behind_words lead.zero.words) (edge_list m (2 ^ m - a) true)
unfolding across_rows edge_list
to_highest_rows lead m a p h =
    let e : 2 ^ m + (2 ^ m - 1) ≡ 2 ^ suc m - 1 = omega arith in
    let f : 2 ^ suc m - 1 - a ≡ 2 ^ m + (2 ^ m - 1 - a) = omega arith in
    let g : 2 ^ m - 1 - a + 1 ≡ 2 ^ m - a = omega arith in
    let small : 2 ^ m - 1 - a + 1 < 2 ^ m = omega arith in
    ap (λ k. map (behind_lead lead) (straight_rows (suc m) a k)) e ∙
    ap (map (behind_lead lead)) (equations_hold.to_highest (suc m) a p (omega arith) ∙ ap (λ k. map (map swap) (straight_rows (suc m) 0 k)) f ∙
    ap (map (map swap)) (from_zero_list m (2 ^ m - 1 - a) small ∙ ap (λ k. (Zero ∷ plain m) ∷ map (λ r. One ∷ r) (edge_list m k false)) g) ∙
    ap₂ (λ (r : Symbols) (l : List Symbols). (One ∷ r) ∷ l) (ap (map swap) (sym (plain_digits m 0)) ∙ swap_dashes (digits m 0) ∙ plain_digits m 0) (swap_behind true (edge_list m (2 ^ m - a) false))) ∙
    ap₂ (λ (w : RowWords) (l : List RowWords). w ∷ l) (plain_behind lead.one.words m) (lead_rows lead Zero (edge_list m (2 ^ m - a) true))

-- by the next digits
pub inner_quarters_rows : (lead : Lead) (low high : RowWords) (m a b : ℕ) → a < 2 ^ m → b < 2 ^ m → WithDigit lead.zero.words low m true → WithDigit lead.one.words high m false →
    map (behind_lead lead) (across_rows (suc m) (2 ^ m + a) b) ≡ map (behind_words low) (edge_list m (2 ^ m - a) true) ++ map (behind_words high) (edge_list m (b + 1) false)
unfolding across_rows
inner_quarters_rows lead low high m a b ha hb x y =
    ap (map (behind_lead lead)) (equations_hold.inner_quarters m a b ha hb ∙ ap₂ (λ (k l : List Symbols). behind Zero One k ++ behind One Zero l) (highest_list m a ha) (lowest_list m b)) ∙
    map-append (behind_lead lead) (behind Zero One (edge_list m (2 ^ m - a) true)) (behind One Zero (edge_list m (b + 1) false)) ∙
    ap₂ (λ (k l : List RowWords). k ++ l)
    (two_rows lead Zero true low m x (edge_list m (2 ^ m - a) true) (edge_long m (2 ^ m - a) true))
    (two_rows lead One false high m y (edge_list m (b + 1) false) (edge_long m (b + 1) false))

pub second_quarter_rows : (lead inner : Lead) (row : RowWords) (m a b : ℕ) → lead.dash.places ≡ suc m → 0 < a → a < 2 ^ m → b < 2 ^ m → WithDigit lead.zero.words row m true → Inserted lead inner false →
    map (behind_lead lead) (across_rows (suc m) a b) ≡ row ∷ map (behind_lead inner) (across_rows m a b)
unfolding across_rows
second_quarter_rows lead inner row m a b places p ha hb x y =
    ap (map (behind_lead lead)) (equations_hold.second_quarter m a b p ha hb) ∙
    ap₂ (λ (w : RowWords) (l : List RowWords). w ∷ l) (two_dashes lead Zero true row m x)
    (through lead inner (suc m) (insert Zero) (inserted_row lead inner m places false y) (across_rows m a b) (straight_rows_long (suc m) a (2 ^ m + b)))

pub third_quarter_rows : (lead inner : Lead) (row : RowWords) (m a b : ℕ) → lead.dash.places ≡ suc m → a < 2 ^ m → b + 1 < 2 ^ m → WithDigit lead.one.words row m false → Inserted lead inner true →
    map (behind_lead lead) (across_rows (suc m) (2 ^ m + a) (2 ^ m + b)) ≡ row ∷ map (behind_lead inner) (across_rows m a b)
unfolding across_rows
third_quarter_rows lead inner row m a b places ha hb x y =
    ap (map (behind_lead lead)) (equations_hold.third_quarter m a b ha hb) ∙
    ap₂ (λ (w : RowWords) (l : List RowWords). w ∷ l) (two_dashes lead One false row m x)
    (through lead inner (suc m) (insert One) (inserted_row lead inner m places true y) (across_rows m a b) (straight_rows_long (suc m) a (2 ^ m + b)))

pub ends_overlap_rows : (lead inner : Lead) (row : RowWords) (m a b : ℕ) → lead.dash.places ≡ suc m → 0 < a → a < 2 ^ m → b + 1 < 2 ^ m → a ≤ b + 1 → WithDigit lead.zero.words row m true → Widened lead inner →
    map (behind_lead lead) (across_rows (suc m) a (2 ^ m + b)) ≡ row ∷ map (behind_lead inner) (across_rows m a b)
unfolding across_rows
ends_overlap_rows lead inner row m a b places p ha hb near x y =
    ap (map (behind_lead lead)) (equations_hold.ends_overlap m a b p ha hb near) ∙
    ap₂ (λ (w : RowWords) (l : List RowWords). w ∷ l) (two_dashes lead Zero true row m x)
    (through lead inner (suc m) widen (widened_row lead inner m places y) (across_rows m a b) (straight_rows_long (suc m) a (2 ^ m + b)))

pub ends_apart_rows : (lead : Lead) (low second third high : RowWords) (m a b : ℕ) → a < 2 ^ m → b + 1 < a →
    WithDigit lead.zero.words low m false → WithDigit lead.zero.words second m true → WithDigit lead.one.words third m false → WithDigit lead.one.words high m true →
    map (behind_lead lead) (across_rows (suc m) a (2 ^ m + b)) ≡
    map (behind_words low) (edge_list m (2 ^ m - a) true) ++ second ∷ third ∷ map (behind_words high) (edge_list m (b + 1) false)
unfolding across_rows
ends_apart_rows lead low second third high m a b ha far x y z t =
    ap (map (behind_lead lead)) (equations_hold.ends_apart m a b ha far ∙
    ap₂ (λ (k l : List Symbols). behind Zero Zero k ++ (Zero ∷ One ∷ plain m) ∷ (One ∷ Zero ∷ plain m) ∷ behind One One l) (highest_list m a ha) (lowest_list m b)) ∙
    map-append (behind_lead lead) (behind Zero Zero (edge_list m (2 ^ m - a) true)) ((Zero ∷ One ∷ plain m) ∷ (One ∷ Zero ∷ plain m) ∷ behind One One (edge_list m (b + 1) false)) ∙
    ap₂ (λ (k l : List RowWords). k ++ l)
    (two_rows lead Zero false low m x (edge_list m (2 ^ m - a) true) (edge_long m (2 ^ m - a) true))
    (ap₂ (λ (w : RowWords) (l : List RowWords). w ∷ l) (two_dashes lead Zero true second m y)
    (ap₂ (λ (w : RowWords) (l : List RowWords). w ∷ l) (two_dashes lead One false third m z)
    (two_rows lead One true high m t (edge_list m (b + 1) false) (edge_long m (b + 1) false))))

-- there is a row
straight_some : (n f l : ℕ) → f ≤ l → l < 2 ^ n → 0 < length (straight_rows n f l)
straight_some n f l o h =
    let run : Run n f l = record { first_fits = omega arith; last_fits = h; proper = λ e. omega arith } in
    let taken : list_takes (rows_of_run n f l) (digits n f) ≡ in_range f l f = run_exact n f l run f (omega arith) in
    go (straight_rows n f l) (rw (le-leb f l o, le-leb f f (omega arith)) at taken)
  where
    go : (rows : List Symbols) → list_takes rows (digits n f) ≡ true → 0 < length rows
    go [] e = absurd (false≢true e)
    go (r ∷ rows) e = omega arith

pub across_some : (across : Across) → 0 < length (across_words across)
unfolding across_rows
across_some across =
    let h = across.ends.first_within in
    let k = across.ends.last_within in
    let e = length-map (across_rows across.ends.places across.ends.first across.ends.last) (behind_lead across.lead) in
    let some = straight_some (suc across.ends.places) across.ends.first (2 ^ across.ends.places + across.ends.last) (omega arith) (omega arith) in
    omega arith

-- the rules for the ends themselves: one of them is the lowest or the highest
module _ (across : Across) where
  pub whole_at : across.ends.first ≡ 0 → across.ends.last + 1 ≡ 2 ^ across.ends.places → across_words across ≡ across.lead.dash.words ∷ []
  whole_at low top =
      let e : across.ends.last ≡ 2 ^ across.ends.places - 1 = omega arith in
      ap₂ (λ j k. map (behind_lead across.lead) (across_rows across.ends.places j k)) low e ∙ whole_rows across.lead across.ends.places

  pub from_zero_at : across.ends.first ≡ 0 → (across.ends.last + 1 ≡ 2 ^ across.ends.places → ⊥) → across_words across ≡ across.lead.zero.words ∷ one_words across.lead across.ends
  from_zero_at low top =
      let h = across.ends.last_within in
      ap (λ j. map (behind_lead across.lead) (across_rows across.ends.places j across.ends.last)) low ∙ from_zero_rows across.lead across.ends.places across.ends.last (omega arith)

  pub to_highest_at : (across.ends.first ≡ 0 → ⊥) → across.ends.last + 1 ≡ 2 ^ across.ends.places → across_words across ≡ across.lead.one.words ∷ zero_words across.lead across.ends
  to_highest_at low top =
      let b : across.ends.last ≡ 2 ^ across.ends.places - 1 = omega arith in
      ap (λ j. map (behind_lead across.lead) (across_rows across.ends.places across.ends.first j)) b ∙
      to_highest_rows across.lead across.ends.places across.ends.first (omega arith) across.ends.first_within

-- the same by their first digits and what is behind them
module _ (across : Across) (rest : Ends) (s : Split across.ends rest) where
  at_dash : across.lead.dash.places ≡ suc rest.places
  at_dash = across.fits ∙ s.places

  -- a digit behind 0 or behind 1
  module _ {row : Front} {d : Bool} where
    behind_zero : Extended across.lead.zero row d → WithDigit across.lead.zero.words row.words rest.places d
    behind_zero x = at_place x rest.places (across.lead.zero_alike ∙ at_dash)

    behind_one : Extended across.lead.one row d → WithDigit across.lead.one.words row.words rest.places d
    behind_one x = at_place x rest.places (across.lead.one_alike ∙ at_dash)

  same_ends : {a b : ℕ} → across.ends.first ≡ a → across.ends.last ≡ b → across_words across ≡ map (behind_lead across.lead) (across_rows (suc rest.places) a b)
  same_ends {a} {b} e f =
      ap (λ k. map (behind_lead across.lead) (across_rows k across.ends.first across.ends.last)) s.places ∙
      ap₂ (λ j k. map (behind_lead across.lead) (across_rows (suc rest.places) j k)) e f

  -- a row, and the inner rows
  module _ (inner : Lead) (row : Front) (low : across.ends.first ≡ 0 → ⊥) (top : across.ends.last + 1 ≡ 2 ^ across.ends.places → ⊥) where
    pub second_quarter_at : digit rest.places across.ends.first ≡ false → digit rest.places across.ends.last ≡ false → Extended across.lead.zero row true → Inserted across.lead inner false →
        across_words across ≡ row.words ∷ map (behind_lead inner) (across_rows rest.places rest.first rest.last)
    second_quarter_at x y e i =
        let a = first_zero s x in
        same_ends a (last_zero s y) ∙
        second_quarter_rows across.lead inner row.words rest.places rest.first rest.last at_dash (omega arith) rest.first_within rest.last_within (behind_zero e) i

    pub third_quarter_at : digit rest.places across.ends.first ≡ true → digit rest.places across.ends.last ≡ true → Extended across.lead.one row false → Inserted across.lead inner true →
        across_words across ≡ row.words ∷ map (behind_lead inner) (across_rows rest.places rest.first rest.last)
    third_quarter_at x y e i =
        let b = last_one s y in
        let d = halves s in
        let h = rest.last_within in
        same_ends (first_one s x) b ∙
        third_quarter_rows across.lead inner row.words rest.places rest.first rest.last at_dash rest.first_within (omega arith) (behind_one e) i

    pub ends_overlap_at : digit rest.places across.ends.first ≡ false → digit rest.places across.ends.last ≡ true → rest.first ≤ rest.last + 1 → Extended across.lead.zero row true → Widened across.lead inner →
        across_words across ≡ row.words ∷ map (behind_lead inner) (across_rows rest.places rest.first rest.last)
    ends_overlap_at x y near e i =
        let a = first_zero s x in
        let b = last_one s y in
        let d = halves s in
        let h = rest.last_within in
        same_ends a b ∙
        ends_overlap_rows across.lead inner row.words rest.places rest.first rest.last at_dash (omega arith) rest.first_within (omega arith) near (behind_zero e) i

  -- the numbers of two quarters, and of all four
  module _ {inner : Lead} where
    pub inner_quarters_at : digit rest.places across.ends.first ≡ true → digit rest.places across.ends.last ≡ false → WithDigits across.lead inner true false →
        across_words across ≡ zero_words inner rest ++ one_words inner rest
    inner_quarters_at x y w =
        same_ends (first_one s x) (last_zero s y) ∙
        inner_quarters_rows across.lead _ _ rest.places rest.first rest.last rest.first_within rest.last_within (behind_zero w.at_zero) (behind_one w.at_one)

    module _ (x : digit rest.places across.ends.first ≡ false) (y : digit rest.places across.ends.last ≡ true) (far : rest.last + 1 < rest.first) (w : WithDigits across.lead inner false true) where
      ends_apart : (second third : RowWords) → WithDigit across.lead.zero.words second rest.places true → WithDigit across.lead.one.words third rest.places false →
          across_words across ≡ zero_words inner rest ++ second ∷ third ∷ one_words inner rest
      ends_apart second third f g =
          same_ends (first_zero s x) (last_one s y) ∙
          ends_apart_rows across.lead _ second third _ rest.places rest.first rest.last rest.first_within far (behind_zero w.at_zero) f g (behind_one w.at_one)

      pub ends_apart_at : {second third : Front} → Extended across.lead.zero second true → Extended across.lead.one third false →
          across_words across ≡ zero_words inner rest ++ second.words ∷ third.words ∷ one_words inner rest
      ends_apart_at f g = ends_apart _ _ (behind_zero f) (behind_one g)

      pub ends_apart_count : length (across_words across) ≡ length (zero_words inner rest) + suc (suc (length (one_words inner rest)))
      ends_apart_count =
          ap length (ends_apart (extend across.lead.zero.words rest.places true) (extend across.lead.one.words rest.places false) (record { value = refl; care = refl }) (record { value = refl; care = refl })) ∙
          length-append (zero_words inner rest) _
