-- What is told of the arrays in the end: how many cells they have, and the sum of these.
use Rattle.std.specs.Prelude.{ℕ, ◌%◌, ◌^◌, List, length}
use Rattle.std.specs.List.{sum, sum_by}

-- how many cells all arrays have
abbrev pub cells_in : List (List ℕ) → ℕ
cells_in contents = sum_by length contents

-- their sum, modulo 2^64
abbrev pub sum_of : List (List ℕ) → ℕ
sum_of contents = sum_by sum contents % 2 ^ 64
