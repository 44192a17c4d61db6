-- When a call on numbers of 128 bits answers what a step of a run gives: `gives` tells the call's results.
use Rattle.std.specs.Prelude.{◌≡◌, ℤ, Result, FitsSigned}
use Rattle.std.specs.Int.{w128}
use Rattle.wide_math.specs.declared.Wide.{Wide}

-- of one number
abbrev pub TurnsAs : (ℤ → Result ℤ Wide → Type 0) → (ℤ → Result ℤ Wide) → Type 0
TurnsAs gives step = (x : ℤ) (r : Result ℤ Wide) → FitsSigned w128 x → gives x r → r ≡ step x

-- of two numbers
abbrev pub CombinesAs : (ℤ → ℤ → Result ℤ Wide → Type 0) → (ℤ → ℤ → Result ℤ Wide) → Type 0
CombinesAs gives step =
    (x y : ℤ) (r : Result ℤ Wide) → FitsSigned w128 x → FitsSigned w128 y → gives x y r → r ≡ step x y
