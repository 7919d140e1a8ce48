-- What making the rows of several ranges answers.
use Rattle.std.specs.Prelude.{◌≡◌, ℕ, ⊤, ◌-◌, ◌<◌, ◌≤◌, min, Bool, List, ◌++◌, length, map, Ok, Err, Result}
use Rattle.std.specs.List.{flat_map, list_all}
use Rattle.arrayvec.specs.ArrayVec.{ArrayVec}
use Rattle.covers.specs.Rivals.{NumberSet}
use Rattle.covers.specs.Rules.{rows_of_range}
use Rattle.covers.specs.Symbols.{Symbols}
use Rattle.circle.specs.Runs.{runs}
use Rattle.rows.specs.declared.range.Range.{Range}
use Rattle.rows.specs.declared.refusal.Refusal.{Refusal}
use Rattle.rows.specs.declared.refusal.Refusal.TheVariants.{TooManyRows}
use Rattle.rows.specs.declared.row_words.RowWords.{RowWords}
use Rattle.rows.specs.Memory.{words_of}
use Rattle.rows.specs.Ranges.{ranges_of}
use Rattle.rows.specs.Widths.{in_width}

-- both ends of each range are numbers of the width
abbrev pub all_in_width : ℕ → List (ℕ × ℕ) → Bool
all_in_width n ranges = list_all (λ r. in_width n r.0 r.1) ranges

-- the lists of several ranges, one after the other
abbrev pub rows_of_ranges : ℕ → List (ℕ × ℕ) → List Symbols
rows_of_ranges n ranges = flat_map (λ r. rows_of_range n r.0 r.1) ranges

-- the ranges are the runs of the set, at a width
abbrev pub RunsOf : ℕ → NumberSet → List Range → Type 0
RunsOf n S ranges = ranges_of ranges ≡ runs n S

-- the rows, made once; refused if they are more than there is room for, or than a device can have slots
abbrev pub RowsMade : List Symbols → ℕ → Result (ArrayVec RowWords) Refusal → Type 0
RowsMade rows room (Ok list) = (list.items ≡ map words_of rows) × (length rows ≤ min room 120)
RowsMade rows room (Err e) = (e ≡ TooManyRows) × (min room 120 < length rows)

-- the rows, added to a list; refused if they are more than there is room for, or than the list still takes
abbrev pub RowsAdded : List Symbols → ℕ → ArrayVec RowWords → ArrayVec RowWords → Result ⊤ Refusal → Type 0
RowsAdded rows room old new (Ok _) = (new.items ≡ old.items ++ map words_of rows) × (length rows ≤ min room (120 - length old.items))
RowsAdded rows room old new (Err e) = (e ≡ TooManyRows) × (min room (120 - length old.items) < length rows)
