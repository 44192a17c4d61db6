-- A system with the same points and fewer rows: wherever the first variable of an equality stands behind it, there is its
-- value; what says nothing is left out, and of rows with the same coefficients the tightest stays.
use Rattle.std.specs.Prelude.{ℕ, suc, Bool, not, ◌&&◌, if◌then◌else◌, nat_eq, ℤ, List, [], ◌∷◌, ◌++◌, length}
use Rattle.std.specs.Prelude.{Result, Ok, Err}
use Rattle.std.specs.List.{list_all}
use Rattle.whole_numbers.specs.Affine.{Affine}
use Rattle.wide_math.specs.declared.Wide.{Wide}
use Rattle.fractions.specs.Elimination.{coefficient_of, is_zero, is_negative}
use Rattle.integer_sets.specs.Constraints.{Constraints, system_of}
use Rattle.fm_projection.specs.Runs.{reduced_run}
use Rattle.fm_projection.specs.Tightest.{with_row}

-- how many numbers stand before the first other than 0
abbrev pub first_place : List ℤ → ℕ
first_place [] = 0
first_place (c ∷ cs) = if is_zero c then suc (first_place cs) else 0

-- what a run gives; the form as it was where a number on the way is too wide
abbrev pub given_or : Affine → Result Affine Wide → Affine
given_or f (Ok g) = g
given_or f (Err w) = f

-- a form over as many variables as an equality, with the equality's value of variable i in its place where both have it
abbrev pub cleared_at : ℕ → Affine → Affine → Affine
cleared_at i e f =
    if is_zero (coefficient_of i e) then f
    else if is_zero (coefficient_of i f) then f
    else given_or f (reduced_run i e f)

-- with the value of the equality's first variable
abbrev pub cleared : Affine → Affine → Affine
cleared e f =
    if nat_eq (length f.coefficients) (length e.coefficients) then cleared_at (first_place e.coefficients) e f else f

-- by each of the equalities, in order
abbrev pub cleared_by : List Affine → Affine → Affine
cleared_by [] f = f
cleared_by (e ∷ es) f = cleared_by es (cleared e f)

-- whether a form has no variable
abbrev pub is_constant : Affine → Bool
is_constant f = list_all is_zero f.coefficients

-- an equality more, behind the others, unless it is 0 = 0
abbrev pub with_equality : List Affine → Affine → List Affine
with_equality es f = if is_constant f && is_zero f.constant then es else es ++ f ∷ []

-- equalities more, each cleared by all before it
abbrev pub with_equalities : List Affine → List Affine → List Affine
with_equalities es [] = es
with_equalities es (f ∷ fs) = with_equalities (with_equality es (cleared_by es f)) fs

-- a row more, or the tighter one in the place of a parallel one, unless it holds everywhere
abbrev pub with_told : List Affine → Affine → List Affine
with_told rows f = if is_constant f && not (is_negative f.constant) then rows else with_row rows f

-- rows more, each cleared by the equalities
abbrev pub with_cleared : List Affine → List Affine → List Affine → List Affine
with_cleared es rows [] = rows
with_cleared es rows (f ∷ fs) = with_cleared es (with_told rows (cleared_by es f)) fs

-- the equalities of a system, each cleared by those before it
unfoldable pub own_equalities : Constraints → List Affine
own_equalities s = with_equalities [] s.equalities

-- its rows, cleared by these
unfoldable pub own_rows : Constraints → List Affine
own_rows s = with_cleared (own_equalities s) [] s.rows

-- the system of both
abbrev pub condensed : Constraints → Constraints
condensed s = system_of s.dimensions s.parameters (own_equalities s) (own_rows s)
