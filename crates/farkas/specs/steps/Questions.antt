-- The question whether the other rows of a system imply one: how it is posed, and what is left behind it.
-- What a list gains, and how a call below makes one stuck.
use Rattle.std.specs.Prelude.{◌≡◌, ℕ, ◌-◌, Bool, if◌then◌else◌, [], ◌∷◌, ◌++◌, length, take, drop, Result, Ok, Err}
use Rattle.whole_numbers.specs.Affine.{Affine}
use Rattle.affine_forms.specs.declared.stop.FormStop.{FormStop}
use Rattle.affine_forms.specs.Gives.{Fails}
use Rattle.integer_sets.specs.Constraints.{Constraints, system_of}
use Rattle.pip_solver.specs.Nodes.{opposite_run}
use Rattle.farkas.specs.Run.{others, implied_run}
use Rattle.std.specs.Prelude.{List}
use Rattle.wide_math.specs.declared.Wide.{Wide}
use Rattle.wide_math.specs.Checked.{◌>>=◌}
use Rattle.affine_forms.specs.declared.stop.FormStop.TheVariants as form_stop
use Rattle.fm_projection.specs.declared.stop.FmStop.TheVariants as fm
use Rattle.pip_solver.specs.declared.stop.Stop.TheVariants as solver
use Rattle.farkas.specs.declared.stuck.Stuck.TheVariants as stuck
use Rattle.farkas.specs.Gives.{Halts}

-- the rows but the one at a place, and a form behind them
abbrev pub asking : Constraints → ℕ → Affine → Constraints
asking s at f = system_of s.dimensions 0 s.equalities (others s.rows at ++ f ∷ [])

-- a row taken out, and the question with its negation behind the others; it stops as the negation does
abbrev pub Poses : Constraints → ℕ → Result (Constraints × Affine) FormStop → Affine → Type 0
Poses s at (Ok p) row = (p.1 ≡ row) × (f : Affine) × (opposite_run row ≡ Ok f) × (p.0 ≡ asking s at f)
Poses s at (Err e) row = Fails e (opposite_run row)

-- a question without the form behind the others, and its row put back unless it is lost
abbrev pub settled : Constraints → ℕ → Bool → Affine → Constraints
settled q at lost row =
    let rest = take (length q.rows - 1) q.rows in
    system_of q.dimensions 0 q.equalities (if lost then rest else take at rest ++ row ∷ drop at rest)

-- what is there, and what a run gives behind it
abbrev pub with_more : {X : Type 0} → List X → Result (List X) Wide → Result (List X) Wide
with_more front run = run >>= λ more. Ok (front ++ more)

-- the list gains what the run gives, or the call fails as the run does; want of memory may stop it anywhere
abbrev pub Gains : {U X : Type 0} → List X → List X → Result U FormStop → Result (List X) Wide → Type 0
Gains old new (Ok _) run = with_more old run ≡ Ok new
Gains old new (Err e) run = Fails e run

-- a question of a row at a place: the run's answer, and the system without the row where the others imply it
abbrev pub Asks : ℕ → Constraints → ℕ → Result Constraints stuck.the_data → Affine → Type 0
Asks budget s at (Ok t) row =
    (lost : Bool) × (implied_run budget s.dimensions s.equalities (others s.rows at) row ≡ Ok lost)
    × (t ≡ system_of s.dimensions 0 s.equalities (if lost then others s.rows at else s.rows))
Asks budget s at (Err e) row = Halts budget e (implied_run budget s.dimensions s.equalities (others s.rows at) row)

-- how a call on forms, which stops, makes this one stuck
abbrev pub stuck_of_form : FormStop → stuck.the_data
stuck_of_form (form_stop.Wide w) = stuck.Elimination (fm.Wide w)
stuck_of_form form_stop.NoMemory = stuck.NoMemory

-- how an elimination, which stops, makes this call stuck
abbrev pub stuck_of_elimination : fm.the_data → stuck.the_data
stuck_of_elimination (fm.Wide w) = stuck.Elimination (fm.Wide w)
stuck_of_elimination (fm.Crowded pairs) = stuck.Elimination (fm.Crowded pairs)
stuck_of_elimination (fm.Large number) = stuck.Elimination (fm.Large number)
stuck_of_elimination fm.NoMemory = stuck.NoMemory

-- how a question to the solver, which stops, makes this call stuck
abbrev pub stuck_of_solver : solver.the_data → stuck.the_data
stuck_of_solver (solver.Wide posed moves) = stuck.Solver (solver.Wide posed moves)
stuck_of_solver (solver.Spent posed moves) = stuck.Solver (solver.Spent posed moves)
stuck_of_solver solver.NoMemory = stuck.NoMemory
