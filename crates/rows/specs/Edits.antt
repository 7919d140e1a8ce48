-- What an edit does to a set.
use Rattle.std.specs.Prelude.{ℕ, Bool, true, false, not, ◌&&◌, ◌||◌}
use Rattle.covers.specs.Rivals.{NumberSet, in_range}
use Rattle.rows.specs.declared.edit.Edit.{Edit}
use Rattle.rows.specs.declared.edit.Edit.TheVariants.{Add, Drop}
use Rattle.rows.specs.Widths.{in_width}

-- the set after the edit
abbrev pub edited : Edit → NumberSet → NumberSet
edited (Add range) S x = S x || in_range range.first range.last x
edited (Drop range) S x = S x && not (in_range range.first range.last x)

-- both ends of the edit are numbers of the width
abbrev pub edit_in_width : ℕ → Edit → Bool
edit_in_width n (Add range) = in_width n range.first range.last
edit_in_width n (Drop range) = in_width n range.first range.last

-- the edit adds its range
abbrev pub adding : Edit → Bool
adding (Add range) = true
adding (Drop range) = false
