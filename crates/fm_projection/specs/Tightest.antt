-- Of rows with the same coefficients the tightest alone: it holds exactly where all of them do.
use Rattle.std.specs.Prelude.{◌-ℤ◌, Bool, if◌then◌else◌, List, [], ◌∷◌}
use Rattle.std.specs.Ordering.{int_eq}
use Rattle.std.specs.Cmp.Lexicographic.{pointwise}
use Rattle.whole_numbers.specs.Affine.{Affine}
use Rattle.fractions.specs.Elimination.{is_negative}
use Rattle.integer_sets.specs.Constraints.{Constraints, system_of}

-- two rows have the same coefficients
abbrev pub are_parallel : Affine → Affine → Bool
are_parallel f g = pointwise int_eq f.coefficients g.coefficients

-- the row with the less constant, the first one of two equal ones
abbrev pub tighter : Affine → Affine → Affine
tighter f g = if is_negative (g.constant -ℤ f.constant) then g else f

-- one row more: behind the others, or where one of them has its coefficients, the tighter of the two in its place
abbrev pub with_row : List Affine → Affine → List Affine
with_row [] g = g ∷ []
with_row (f ∷ fs) g = if are_parallel f g then tighter f g ∷ fs else f ∷ with_row fs g

-- rows more, in order
abbrev pub with_rows : List Affine → List Affine → List Affine
with_rows fs [] = fs
with_rows fs (g ∷ gs) = with_rows (with_row fs g) gs

-- of rows with the same coefficients the tightest, in the place of the first of them
abbrev pub tightest : List Affine → List Affine
tightest rows = with_rows [] rows

-- the system with the tightest of its rows
abbrev pub tightened : Constraints → Constraints
tightened s = system_of s.dimensions s.parameters s.equalities (tightest s.rows)
