-- A maximum by a minimum: x = top - x'.
use Rattle.std.specs.Prelude.{ℤ, ◌-ℤ◌, List, map}

-- what x' stands for, for a number above all turns
abbrev pub flipped : ℤ → List ℤ → List ℤ
flipped top xs = map (λ x. top -ℤ x) xs
