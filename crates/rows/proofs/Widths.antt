-- A width has 1 to 32 places.
use Rattle.std.proofs.Common.{◌≤◌, arith}
use Rattle.rows.specs.declared.width.Width.{Width}
use Rattle.rows.specs.Widths.{places_of}

pub places_some : (w : Width) → 1 ≤ places_of w
places_some w = omega arith

pub places_most : (w : Width) → places_of w ≤ 32
places_most w = omega arith
