-- How far a reader of a certificate has come behind its items, and the steps that lines are.
use Rattle.std.specs.Prelude.{◌≡◌, ◌+◌, ℕ, ℤ, pos, negsuc, ◌≤ℤ◌, Bool, true, false, List, [], ◌∷◌, ◌++◌, All, Result, Ok, Err}
use Rattle.whole_numbers.specs.Affine.{Affine, value_of}
use Rattle.wide_math.specs.declared.Wide.{Wide}
use Rattle.wide_math.specs.Checked.{◌>>=◌}
use Rattle.affine_forms.specs.Parts.{variables_of}
use Rattle.affine_forms.specs.Runs.{scaled_run}
use Rattle.integer_sets.specs.Constraints.{variables_in}
use Rattle.integer_sets.specs.Points.{Satisfies}
use Rattle.iteration_domains.specs.Dependence.{Dependence}
use Rattle.plan_check.specs.Derivations.{Step, held, is_contradiction, row_said}
use Rattle.plan_check.specs.Goals.{HasNoPoint}
use Rattle.plan_check.specs.declared.lines.Fault.{Fault}
use Rattle.plan_check.specs.declared.lines.Fault.TheVariants as fault

-- all goals, those that are left, how many have been begun, of the last one its variables and its rows so far, and
-- whether the last row was a contradiction, or no goal has been begun
pub record Progress : Type 0 where
  pub goals : List Dependence
  pub left : List Dependence
  pub begun : ℕ
  pub variables : ℕ
  pub rows : List Affine
  pub ended : Bool

-- before the first goal
abbrev pub opening : List Dependence → Progress
opening goals = record { goals = goals; left = goals; begun = 0; variables = 0; rows = []; ended = true }

-- equalities, each as two rows, the form and its opposite; an opposite may leave 128 bits
abbrev pub both_run : List Affine → Result (List Affine) Wide
both_run [] = Ok []
both_run (e ∷ es) = scaled_run (negsuc 0) e >>= λ o. both_run es >>= λ os. Ok (e ∷ o ∷ os)

-- rows, and those of a run behind them
abbrev pub behind_run : List Affine → Result (List Affine) Wide → Result (List Affine) Wide
behind_run rows (Err w) = Err w
behind_run rows (Ok more) = Ok (rows ++ more)

-- a goal's rows: its equalities, each as two rows, then its other rows
abbrev pub goal_run : Dependence → Result (List Affine) Wide
goal_run d = both_run d.system.equalities >>= λ rows. Ok (rows ++ d.system.rows)

-- a goal is open with its rows, behind so many
abbrev pub opened : List Dependence → List Dependence → ℕ → Dependence → List Affine → Progress
opened goals left begun d rows =
    record {
      goals = goals;
      left = left;
      begun = begun + 1;
      variables = variables_in d.system;
      rows = rows;
      ended = false;
    }

abbrev pub begun_with : List Dependence → List Dependence → ℕ → Dependence → Result (List Affine) Fault
    → Result Progress Fault
begun_with goals left begun d (Err f) = Err f
begun_with goals left begun d (Ok rows) = Ok (opened goals left begun d rows)

-- the line of the next goal: the fault Goal where none is left, Wide where its rows are
abbrev pub next_begun : Progress → List Dependence → Result Progress Fault
next_begun p [] = Err fault.Goal
next_begun p (d ∷ left) = begun_with p.goals left p.begun d (held (goal_run d))

abbrev pub goal_begun : Progress → Result Progress Fault
goal_begun p = next_begun p p.left

-- no goal is left
abbrev pub none_left : List Dependence → Bool
none_left [] = true
none_left (d ∷ left) = false

-- a row more
abbrev pub with_row : Progress → Result Affine Fault → Result Progress Fault
with_row p (Err f) = Err f
with_row p (Ok g) = Ok (record p { rows = p.rows ++ g ∷ []; ended = is_contradiction g })

-- a line of the open goal's derivation
abbrev pub line_added : Progress → Step → Result Progress Fault
line_added p s = with_row p (row_said p.variables p.rows s)

-- the open goal's points satisfy its rows so far
abbrev pub Holds : List Affine → Dependence → Type 0
Holds rows d = (point : List ℤ) → Satisfies d.system point → All (λ f. pos 0 ≤ℤ value_of f point) rows

-- those before the open goal have no whole point, and the open one's points satisfy its rows; where the last row was a
-- contradiction it has none either
pub record IsProgress (p : Progress) : Type 0 where
  pub sized : All (λ f. variables_of f ≡ p.variables) p.rows
  pub shown : List Dependence
  pub current : List Dependence
  pub are : p.goals ≡ shown ++ (current ++ p.left)
  pub none : All HasNoPoint shown
  pub hold : All (Holds p.rows) current
  pub ends : p.ended ≡ true → All HasNoPoint current

-- behind goals without a whole point comes this one
pub record IsNext (goals left : List Dependence) (d : Dependence) : Type 0 where
  pub shown : List Dependence
  pub are : goals ≡ shown ++ d ∷ left
  pub none : All HasNoPoint shown

-- a row that the open goal's points satisfy
pub record CanGain (p : Progress) (g : Affine) : Type 0 where
  pub variables : variables_of g ≡ p.variables
  pub follows : (point : List ℤ) → All (λ f. pos 0 ≤ℤ value_of f point) p.rows → pos 0 ≤ℤ value_of g point
