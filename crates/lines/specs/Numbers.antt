-- Numbers as they are written in a line.
use Rattle.std.specs.Prelude.{◌≡◌, ℕ, ◌≤◌, List, ◌++◌, length, codes}
use Rattle.std.specs.Str.Parse.{IsNumeral, digits_value}

-- one to ten decimal digits, and nothing else, write this number
pub record Written (text : List ℕ) (x : ℕ) : Type 0 where
  pub digits : IsNumeral 10 text
  pub few : length text ≤ 10
  pub number : digits_value 10 text ≡ x

-- two numbers with one space between them
pub record WrittenPair (text : List ℕ) (x y : ℕ) : Type 0 where
  pub left : List ℕ
  pub right : List ℕ
  pub parts : text ≡ left ++ (codes " " ++ right)
  pub first : Written left x
  pub second : Written right y
