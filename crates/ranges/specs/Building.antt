-- How lists of rows are written down: terms for the contracts of the private functions.
use Rattle.std.specs.Prelude.{◌≡◌, ℕ, suc, ◌+◌, ◌-◌, ◌^◌, ◌<◌, ◌≤◌, Bool, true, false, cond, not, List, [], ◌∷◌, map, length, Ok, Err, Result}
use Rattle.arrayvec.specs.ArrayVec.{ArrayVec, array_vec_len}
use Rattle.covers.specs.declared.symbol.Symbol.TheVariants.{Zero, One, Dash}
use Rattle.covers.specs.Symbols.{Symbols}
use Rattle.covers.specs.Words.{value_word, care_word}
use Rattle.covers.specs.Digits.{digit}
use Rattle.covers.specs.Rules.{swap, straight_rows, round_rows, rows_of_run, rows_of_range}
use Rattle.rows.specs.declared.row_words.RowWords.{RowWords}
use Rattle.rows.specs.declared.refusal.Refusal.{Refusal}
use Rattle.rows.specs.declared.refusal.Refusal.TheVariants.{NumberOutsideWidth}
use Rattle.rows.specs.Memory.{words_of}
use Rattle.rows.specs.Widths.{in_width}
use Rattle.ranges.specs.declared.front.Front.{Front}
use Rattle.ranges.specs.declared.lead.Lead.{Lead}
use Rattle.ranges.specs.declared.edge.Edge.{Edge}
use Rattle.ranges.specs.declared.ends.Ends.{Ends}
use Rattle.ranges.specs.declared.across.Across.{Across}
use Rattle.ranges.specs.declared.stretch.Stretch.{Stretch}

-- as many more items fit in the list of a range
abbrev pub HasRoom : {X : Type 0} → ArrayVec X → List X → Type 0
HasRoom list more = array_vec_len list + length more ≤ 62

-- words of a row that has dashes at its last places, and a row that stands at those places behind it
abbrev pub behind_words : RowWords → Symbols → RowWords
behind_words front r = record { value = front.value + value_word r; care = front.care + care_word r }

abbrev pub behind_front : Front → Symbols → RowWords
behind_front front r = behind_words front.words r

-- the words have the digit d at place m, where the others have a dash
pub record WithDigit (front more : RowWords) (m : ℕ) (d : Bool) : Type 0 where
  pub value : more.value ≡ front.value + cond d (2 ^ m) 0
  pub care : more.care ≡ front.care + 2 ^ m

-- the second front has the digit d in the first free place of the first
pub record Extended (front more : Front) (d : Bool) : Type 0 where
  pub places : front.places ≡ suc more.places
  pub digit : WithDigit front.words more.words more.places d

-- the list with 0 and 1 exchanged in each row, or as it is
abbrev pub turned : Bool → List Symbols → List Symbols
turned exchanged rows = cond exchanged (map (map swap) rows) rows

-- the list of the `count` lowest numbers of m places or, exchanged, of the highest
unfoldable pub edge_list : ℕ → ℕ → Bool → List Symbols
edge_list m count exchanged = turned exchanged (straight_rows m 0 (count - 1))

-- its words
abbrev pub edge_words : Edge → List RowWords
edge_words edge = map (behind_front edge.front) (edge_list edge.front.places edge.count edge.exchanged)

-- the front by the first symbol of a row, and the rest of the row behind it
abbrev pub behind_lead : Lead → Symbols → RowWords
behind_lead lead [] = lead.dash.words
behind_lead lead (Zero ∷ r) = behind_front lead.zero r
behind_lead lead (One ∷ r) = behind_front lead.one r
behind_lead lead (Dash ∷ r) = behind_front lead.dash r

-- the lead of the inner rows, where a digit was put in after the first symbol
pub record Inserted (lead inner : Lead) (d : Bool) : Type 0 where
  pub at_zero : Extended lead.zero inner.zero d
  pub at_one : Extended lead.one inner.one d
  pub at_dash : Extended lead.dash inner.dash d

-- the lead of rows with a digit after a first 0 and another after a first 1
pub record WithDigits (lead inner : Lead) (d e : Bool) : Type 0 where
  pub at_zero : Extended lead.zero inner.zero d
  pub at_one : Extended lead.one inner.one e

-- the lead of the inner rows, where their beginnings were widened
pub record Widened (lead inner : Lead) : Type 0 where
  pub at_zero : Extended lead.dash inner.zero false
  pub at_one : inner.one.words ≡ lead.one.words
  pub at_dash : inner.dash.words ≡ lead.dash.words

-- the lead of rows that begin behind a front, whose first symbols are exchanged or stay
pub record Begun (front : Front) (lead : Lead) (exchanged : Bool) : Type 0 where
  pub at_zero : Extended front lead.zero exchanged
  pub at_one : Extended front lead.one (not exchanged)
  pub at_dash : lead.dash.words ≡ front.words

-- the ends are those of the range from f to l at n places
pub record EndsOf (n f l : ℕ) (ends : Ends) : Type 0 where
  pub places : ends.places ≡ n
  pub first : ends.first ≡ f
  pub last : ends.last ≡ l

-- what making them answers
abbrev pub EndsMade : ℕ → ℕ → ℕ → Result Ends Refusal → Type 0
EndsMade n f l (Ok ends) = EndsOf n f l ends
EndsMade n f l (Err refusal) = (in_width n f l ≡ false) × (refusal ≡ NumberOutsideWidth)

-- both ends are one digit and, behind it, the end of the rest
pub record Split (ends rest : Ends) : Type 0 where
  pub places : ends.places ≡ suc rest.places
  pub first : ends.first ≡ cond (digit rest.places ends.first) (2 ^ rest.places) 0 + rest.first
  pub last : ends.last ≡ cond (digit rest.places ends.last) (2 ^ rest.places) 0 + rest.last

-- the first number begins with 0 and the last with 1, if they have digits
abbrev pub Parted : Ends → Type 0
Parted ends = 0 < ends.places → (ends.first < 2 ^ (ends.places - 1)) × (2 ^ (ends.places - 1) ≤ ends.last)

-- the first number begins with 1 and the last with 0
pub record OverMiddle (ends : Ends) : Type 0 where
  pub some : 0 < ends.places
  pub first : digit (ends.places - 1) ends.first ≡ true
  pub last : digit (ends.places - 1) ends.last ≡ false

-- the list of 0a to 1b, both with m digits behind the first
unfoldable pub across_rows : ℕ → ℕ → ℕ → List Symbols
across_rows m a b = straight_rows (suc m) a (2 ^ m + b)

-- its words behind a lead
abbrev pub across_words : Across → List RowWords
across_words across = map (behind_lead across.lead) (across_rows across.ends.places across.ends.first across.ends.last)

-- the words of those numbers of it that begin with 0, and of those that begin with 1
abbrev pub zero_words : Lead → Ends → List RowWords
zero_words lead ends = map (behind_front lead.zero) (edge_list ends.places (2 ^ ends.places - ends.first) true)

abbrev pub one_words : Lead → Ends → List RowWords
one_words lead ends = map (behind_front lead.one) (edge_list ends.places (ends.last + 1) false)

-- the words of a stretch that is straight, of one that goes round, and of either
abbrev pub straight_words : Stretch → List RowWords
straight_words stretch = map (behind_front stretch.front) (straight_rows stretch.ends.places stretch.ends.first stretch.ends.last)

abbrev pub round_words : Stretch → List RowWords
round_words stretch = map (behind_front stretch.front) (round_rows stretch.ends.places stretch.ends.first stretch.ends.last)

abbrev pub stretch_words : Stretch → List RowWords
stretch_words stretch = map (behind_front stretch.front) (rows_of_run stretch.ends.places stretch.ends.first stretch.ends.last)

-- the words of the range with these ends
abbrev pub range_words : Ends → List RowWords
range_words ends = map words_of (rows_of_range ends.places ends.first ends.last)

-- the stretch has these ends, and nothing before them
pub record Alone (of : Ends) (stretch : Stretch) : Type 0 where
  pub ends : stretch.ends ≡ of
  pub value : stretch.front.words.value ≡ 0
  pub care : stretch.front.words.care ≡ 0
