-- The question whether a system has a whole point within bounds.
use Rattle.std.specs.Prelude.{◌≡◌, ℕ, zero, suc, ℤ, pos, negsuc, ◌≤ℤ◌, Bool, true, false, List, [], ◌∷◌, ◌++◌, length}
use Rattle.std.specs.Prelude.{set, Result, Ok, Err, All}
use Rattle.whole_numbers.specs.Lists.{zeros, NotNegative}
use Rattle.whole_numbers.specs.Affine.{Affine, form_of}
use Rattle.integer_sets.specs.Wide.{Wide}
use Rattle.integer_sets.specs.Checked.{difference_of, ◌>>=◌}
use Rattle.integer_sets.specs.Constraints.{Constraints, variables_in}
use Rattle.integer_sets.specs.Points.{Satisfies}
use Rattle.tableau_rows.specs.Problem.{problem_of}
use Rattle.tableau_rows.specs.Run.{point, none, Outcome, question}
use Rattle.lexmin_runs.specs.Nodes.{Counted, formed, opposites_run}

-- -f: the coefficients in order, then the constant
unfoldable pub negated_run : Affine → Result Affine Wide
negated_run f = opposites_run f.coefficients >>= λ bs. difference_of (pos 0) f.constant >>= λ c. Ok (form_of bs c)

-- the rows of equalities: of each, f and then -f
abbrev pub equality_rows_run : List Affine → Result (List Affine) Wide
equality_rows_run [] = Ok []
equality_rows_run (f ∷ fs) = negated_run f >>= λ g. equality_rows_run fs >>= λ gs. Ok (f ∷ g ∷ gs)

-- 65536 - z over v variables, of each of the k variables z from place i on
abbrev pub bound_rows : ℕ → ℕ → ℕ → List Affine
bound_rows v i zero = []
bound_rows v i (suc k) = form_of (set (zeros v) i (negsuc 0)) (pos 65536) ∷ bound_rows v (suc i) k

-- the rows of a system: its equalities', its own, and last a bound of each parameter
unfoldable pub posed_run : Constraints → Result (List Affine) Wide
posed_run s =
    equality_rows_run s.equalities >>= λ es. Ok
    (es ++ (s.rows ++ bound_rows (variables_in s) s.dimensions s.parameters))

-- whether the answer is that there is no point
abbrev pub emptied : Outcome → Counted Bool
emptied (Ok (point x, left)) = Ok (false, left)
emptied (Ok (none, left)) = Ok (true, left)
emptied (Err stop) = Err stop

-- whether a system has no point: its dimensions, then its parameters, are the unknowns of a question
unfoldable pub empty_run : ℕ → Constraints → Counted Bool
empty_run budget s = formed budget (posed_run s) (λ rows. emptied (question budget (problem_of (variables_in s) rows)))

-- a whole point of a system, no dimension negative, each parameter in 0..=65536
pub record IsBoundedPoint (s : Constraints) (x p : List ℤ) : Type 0 where
  pub dimensions : length x ≡ s.dimensions
  pub parameters : length p ≡ s.parameters
  pub not_negative : NotNegative (x ++ p)
  pub bounded : All (λ z. z ≤ℤ pos 65536) p
  pub inside : Satisfies s (x ++ p)

-- there is one
pub record HasBoundedPoint (s : Constraints) : Type 0 where
  pub x : List ℤ
  pub p : List ℤ
  pub is : IsBoundedPoint s x p
