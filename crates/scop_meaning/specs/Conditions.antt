-- What it takes to enter a turn of a loop.
use Rattle.std.specs.Prelude.{◌≡◌, ℕ, ◌<◌, ◌^◌, ℤ, pos, ◌+ℤ◌, ◌*ℤ◌, List, length, FitsSigned}
use Rattle.std.specs.Int.{w64}
use Rattle.whole_numbers.specs.Affine.{value_of}
use Rattle.scop_syntax.specs.Tree.{Head}

-- what it takes to enter turn k of a loop whose first iterator is this
pub record CanTurn (room : ℕ) (head : Head) (first : ℤ) (k : ℕ) (point : List ℤ) : Type 0 where
  pub space : length point < room
  pub is_first : first ≡ value_of head.first point
  pub turn : k < 2 ^ 63
  pub fits : FitsSigned w64 (value_of head.first point +ℤ (head.stride *ℤ pos k))
