-- Worked programs of the small C.
use Rattle.std.specs.Prelude.{ℕ, ◌-◌, ◌^◌, true, false, pos, [], ◌∷◌}
use Rattle.c_meaning.specs.Assignments.{Arrays}
use Rattle.c_meaning.specs.Runs.{Act}
use Rattle.c_meaning.specs.Syntax.{number, name, Assignment, constant, plain, loop, block, Statements, none, more}

-- A[i] = 7ULL, where i is the name behind one other
abbrev pub seven : Assignment
seven = record { place = record { array = 0; subscripts = name 1 ∷ [] }; right = plain (constant 7) }

-- parallel: for (int64_t p = 0; p <= 1; p++) { { const int64_t i = p; A[i] = 7ULL; } }
abbrev pub two_cells : Statements
two_cells = more (loop true (number 0) (number 1) (more (block (name 0 ∷ []) seven) none)) none

-- its assignment in iteration k
abbrev pub act : ℕ → Act
act k = record { assignment = seven; point = pos k ∷ pos k ∷ [] }

-- uint64_t A[n]
abbrev pub row_of : ℕ → Arrays
row_of n = record { narrow = false ∷ []; extents = (n ∷ []) ∷ [] }

-- for (int64_t p = 2^63 - 1; p <= 2^63 - 1; p++) { }
abbrev pub past_the_end : Statements
past_the_end = more (loop false (number (2 ^ 63 - 1)) (number (2 ^ 63 - 1)) none) none
