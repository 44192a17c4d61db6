-- The run of a problem without parameters: pivots and cuts, within a budget of moves, to the least point or to none.
use Rattle.std.specs.Prelude.{ℕ, zero, suc, ℤ, Bool, true, false, if◌then◌else◌, List, [], ◌∷◌, ◌++◌, map, take, Option}
use Rattle.std.specs.Prelude.{Some, None, Result, Ok, Err}
use Rattle.whole_numbers.specs.Floor.{floor, remainder}
use Rattle.affine_forms.specs.Wide.{Wide}
use Rattle.affine_forms.specs.Checked.{◌>>=◌}
use Rattle.tableau_rows.specs.Rows.{Row, entry}
use Rattle.tableau_rows.specs.Moves.{is_below, is_positive, row_at, pivot_run, cut_run}
use Rattle.tableau_rows.specs.Problem.{Problem, IsLexmin, IsEmpty, first_rows}

-- how a run ends: at a point, or at none
pub data Verdict : Type 0 where
  point : List ℤ → Verdict
  none : Verdict

-- why it stops: a number is too wide, with what is left of the budget, or the budget is spent
pub data Stop : Type 0 where
  wide : Wide → ℕ → Stop
  spent : Stop

-- what a node without parameters does next
pub data Step : Type 0 where
  ends : Verdict → Step
  pivots : ℕ → Step
  cuts : ℕ → Step

-- the first of the rows, counted from i on, that passes a test
abbrev pub first_row : (Row → Bool) → ℕ → List Row → Option ℕ
first_row test i [] = None
first_row test i (row ∷ rows) = if test row then Some i else first_row test (suc i) rows

-- whether one of k entries from j on is positive
abbrev pub some_positive : Row → ℕ → ℕ → Bool
some_positive row j zero = false
some_positive row j (suc k) = if is_positive (entry row j) then true else some_positive row (suc j) k

-- whether the constant, which stands behind the n columns, is at most -1
abbrev pub has_below : ℕ → Row → Bool
has_below n row = is_below (entry row n)

-- whether the constant, which stands behind the n columns, is no multiple of the denominator
abbrev pub has_fraction : ℕ → Row → Bool
has_fraction n row = is_positive (remainder (entry row n) row.denominator)

-- the constants over their denominators
abbrev pub quotients : ℕ → List Row → List ℤ
quotients n rows = map (λ (row : Row). floor (entry row n) row.denominator) rows

-- the first unknown that is not whole is cut; where all are whole the node is at its point
abbrev pub cut_or_end : ℕ → List Row → Option ℕ → Step
cut_or_end n rows None = ends (point (quotients n (take n rows)))
cut_or_end n rows (Some i) = cuts i

-- the first row below 0 is pivoted on, or shows that there is no point; without one a cut or the end comes next
abbrev pub pivot_or_cut : ℕ → List Row → Option ℕ → Step
pivot_or_cut n rows None = cut_or_end n rows (first_row (has_fraction n) 0 (take n rows))
pivot_or_cut n rows (Some r) = if some_positive (row_at rows r) 0 n then pivots r else ends none

-- the first row below 0 is pivoted on, or shows that there is no point; else the first unknown that is not whole
-- is cut; else the node is at its point
unfoldable pub next : ℕ → List Row → Step
next n rows = pivot_or_cut n rows (first_row (has_below n) 0 rows)

-- a move
abbrev pub moved : ℕ → List Row → Step → Result (List Row) Wide
moved n rows (ends v) = Ok rows
moved n rows (pivots r) = pivot_run n rows r
moved n rows (cuts i) = cut_run n None (row_at rows i) >>= λ row. Ok (rows ++ row ∷ [])

-- a run, with what is left of its budget
abbrev pub Outcome : Type 0
Outcome = Result (Verdict × ℕ) Stop

-- the run goes on from the rows that a move gives; a number that is too wide stops it, with what is left of the budget
abbrev pub go_on : (List Row → Outcome) → ℕ → Result (List Row) Wide → Outcome
go_on go left (Ok rows) = go rows
go_on go left (Err w) = Err (wide w left)

-- what comes of a step where the budget is spent: only an end may still come
abbrev pub at_spent : Step → Outcome
at_spent (ends v) = Ok (v, 0)
at_spent (pivots r) = Err spent
at_spent (cuts i) = Err spent

-- what comes of a step where `left` + 1 moves are left: an end takes none, a pivot or a cut one
abbrev pub after : (List Row → Outcome) → ℕ → List Row → ℕ → Step → Outcome
after go n rows left (ends v) = Ok (v, suc left)
after go n rows left (pivots r) = go_on go (suc left) (moved n rows (pivots r))
after go n rows left (cuts i) = go_on go (suc left) (moved n rows (cuts i))

-- the run of rows of n unknowns with a budget of moves
abbrev pub run : ℕ → ℕ → List Row → Outcome
run n zero rows = at_spent (next n rows)
run n (suc left) rows = after (run n left) n rows left (next n rows)

-- the run of a problem without parameters, with a budget
unfoldable pub question : ℕ → Problem → Outcome
question budget problem = run problem.unknowns budget (first_rows 0 problem)

-- what a verdict says of a problem at parameters
abbrev pub IsRight : Problem → List ℤ → Verdict → Type 0
IsRight problem p (point x) = IsLexmin problem p x
IsRight problem p none = IsEmpty problem p
