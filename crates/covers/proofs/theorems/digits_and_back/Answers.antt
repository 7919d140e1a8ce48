use Rattle.covers.proofs.Numbers.{value_digits, digits_value}
use Rattle.covers.proofs.theorems.digits_and_back.Goals as goal

pub returns : goal.returns
returns c = record { holds = record { number_back = value_digits; digits_back = digits_value } }
