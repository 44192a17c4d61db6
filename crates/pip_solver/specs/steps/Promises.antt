-- What the parts of a question promise.
use Rattle.std.specs.Prelude.{◌≡◌, ℕ, suc, ◌+◌, ◌<◌, length, Bool, List, [], None, Result, Ok, Err, ⊤, Vec}
use Rattle.std.specs.declared.alloc.Global.{Global}
use Rattle.wide_math.specs.declared.Wide.{Wide}
use Rattle.whole_numbers.specs.Affine.{Affine}
use Rattle.affine_forms.specs.declared.stop.FormStop.{FormStop}
use Rattle.affine_forms.specs.declared.stop.FormStop.TheVariants as form_stop
use Rattle.checked_tableau.specs.Emptiness.{equality_rows_run, emptied}
use Rattle.integer_sets.specs.Constraints.{Constraints}
use Rattle.tableau_rows.specs.Problem.{problem_of, Speaks}
use Rattle.checked_tableau.specs.declared.problem.Problem.{Problem}
use Rattle.pip_solver.specs.declared.stop.Stop.TheVariants as solver
use Rattle.tableau_rows.specs.Run as run
use Rattle.tableau_rows.specs.Run.{Verdict}
use Rattle.checked_tableau.specs.Nodes.{Counted, answered, part_of}
use Rattle.tableau_rows.specs.Moves.{row_at}
use Rattle.pip_solver.specs.declared.node.Tableau.{Tableau}
use Rattle.checked_tableau.specs.Table.{Table}
use Rattle.checked_tableau.specs.declared.stop.TableauStop.TheVariants as moved
use Rattle.pip_solver.specs.declared.question.Step.TheVariants as step
use Rattle.pip_solver.specs.declared.question.QuestionStop.{QuestionStop}
use Rattle.pip_solver.specs.declared.question.QuestionStop.TheVariants as stop
use Rattle.pip_solver.specs.Promises.{FormedUntil, IsUnposed}

-- the code's step is the run's, on one of the rows
abbrev pub Shows : step.the_data → Table → Type 0
Shows (step.Ends found) t = (v : Verdict) × (run.next t.unknowns t.rows ≡ run.ends v)
    × (answered (Ok (v, 0)) ≡ Ok (found, 0))
Shows (step.Pivots row) t = (run.next t.unknowns t.rows ≡ run.pivots row) × (row < length t.rows)
Shows (step.Cuts row) t = (run.next t.unknowns t.rows ≡ run.cuts row) × (row < length t.rows)

-- an answer, with what is left of the budget, is the run's; want of memory is free
abbrev pub Tells : {A : Type 0} → Result A QuestionStop → ℕ → Counted A → Type 0
Tells (Ok found) left counted = counted ≡ Ok (found, left)
Tells (Err stop.Wide) left counted = (w : Wide) × (counted ≡ Err (run.wide w left))
Tells (Err stop.Spent) left counted = (counted ≡ Err run.spent) × (left ≡ 0)
Tells (Err stop.NoMemory) left counted = ⊤

-- why a question stops where a move does
abbrev pub stop_of : moved.the_data → QuestionStop
stop_of (moved.Wide w) = stop.Wide
stop_of moved.NoMemory = stop.NoMemory

-- a move of a question: its run goes on with one move less, or stops so
abbrev pub Advances : {U : Type 0} → Table → ℕ → Table → ℕ → Result U QuestionStop → Type 0
Advances old left new rest (Ok _) =
    (left ≡ suc rest) × (new.stopped ≡ None) × (new.unknowns ≡ old.unknowns)
    × (run.run old.unknowns left old.rows ≡ run.run old.unknowns rest new.rows)
Advances old left new rest (Err stop.Wide) = (w : Wide) × (run.run old.unknowns left old.rows ≡ Err (run.wide w rest))
Advances old left new rest (Err stop.Spent) = (run.run old.unknowns left old.rows ≡ Err run.spent) × (rest ≡ 0)
Advances old left new rest (Err stop.NoMemory) = ⊤

-- the rows of equalities are formed, or those in front of the first number that is too wide; want of memory is free
abbrev pub Forms : {U : Type 0} → Result U FormStop → List Affine → List Affine → Type 0
Forms (Ok _) equalities rows = equality_rows_run equalities ≡ Ok rows
Forms (Err (form_stop.Wide w)) equalities rows = FormedUntil w equalities rows
Forms (Err form_stop.NoMemory) equalities rows = ⊤

-- the problem of n unknowns and of rows, without parameters
pub record IsProblem (n : ℕ) (fs : List Affine) (posed : Problem) : Type 0 where
  pub unknowns : posed.unknowns ≡ n
  pub parameters : posed.parameters ≡ 0
  pub rows : posed.rows.items ≡ fs
  pub context : posed.context.items ≡ []

-- whether the run finds that rows over n unknowns have no point
abbrev pub decided : ℕ → ℕ → List Affine → Counted Bool
decided budget n rows = emptied (run.question budget (problem_of n rows))

-- a decision is the run's; a stop tells the problem of the rows and the moves made
abbrev pub Decides : Result Bool solver.the_data → ℕ → ℕ → List Affine → Type 0
Decides (Ok empty) budget n rows = (left : ℕ) × (decided budget n rows ≡ Ok (empty, left))
Decides (Err (solver.Wide told moves)) budget n rows =
    (w : Wide) × (left : ℕ) × (decided budget n rows ≡ Err (run.wide w left)) × (moves + left ≡ budget)
    × IsProblem n rows told
Decides (Err (solver.Spent told moves)) budget n rows =
    (decided budget n rows ≡ Err run.spent) × (moves ≡ budget) × IsProblem n rows told
Decides (Err solver.NoMemory) budget n rows = ⊤

-- the rows of a system's equalities are formed, or how that stops
abbrev pub FormsEqualities : Result (Vec Affine Global) solver.the_data → Constraints → Type 0
FormsEqualities (Ok rows) s = equality_rows_run s.equalities ≡ Ok rows.items
FormsEqualities (Err stop) s = IsUnposed stop s

-- a row of a node whose context speaks of its parameters, as the row's part does
abbrev pub AsksOf : Tableau → ℕ → Type 0
AsksOf node row =
    (row < length node.rows.rows) × Speaks node.rows.parameters node.context.items
    × (length (part_of node.rows.unknowns (row_at node.rows.rows row)).coefficients ≡ node.rows.parameters)
