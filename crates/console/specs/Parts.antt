-- The part of a console, which clauses read.
use Rattle.filter.specs.declared.filter.Filter.{Filter}

pub record ConsoleParts (D : Type 0) : Type 0 where
  pub filter : Filter D
