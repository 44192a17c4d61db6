-- The questions that the search asks, in their order: what it is that they are answered, and that one is the first that
-- stops.
use Rattle.std.specs.Prelude.{◌≡◌, ℕ, ℤ, Bool, true, false, List, [], ◌∷◌, map, All, ◌⊎◌, Option, None, Some, Vec}
use Rattle.std.specs.Prelude.{Ok, Err, ⊤}
use Rattle.std.specs.Global.{Global}
use Rattle.integer_sets.specs.Constraints.{Constraints}
use Rattle.pip_solver.specs.declared.stop.Stop.TheVariants as solver
use Rattle.pip_solver.specs.Promises.{Empties}
use Rattle.pip_solver.specs.Minimum.{Minimizes}
use Rattle.iteration_domains.specs.Dependence.{Dependence}
use Rattle.pluto_systems.specs.FmStop.TheVariants as fm
use Rattle.pluto_systems.specs.Stuck.TheVariants as stuck
use Rattle.pluto_systems.specs.Gives.{Follows}
use Rattle.schedule_rows.specs.Items.{Row, Marked}
use Rattle.schedule_rows.specs.Dependences.{above_at}
use Rattle.schedule_rows.specs.Posed.{IsFull, IsLeast, HasNone}
use Rattle.schedule_rows.specs.Next.{State, rows_of, restricted, IsWithin}
use Rattle.schedule_rows.specs.Outcomes.{Outcome, state, Next}
use Rattle.schedule_rows.specs.Reaching.{Reached}
use Rattle.pluto_systems.specs.Posing.{RuledDep, dep_of, AreVectorsOf, posed_system, ruled_run}

-- one of a list meets Q, and all before it meet P
abbrev pub IsFirst : {A : Type 0} → (A → Type 0) → (A → Type 0) → List A → Type 0
IsFirst P Q [] = ⊥
IsFirst P Q (x ∷ xs) = Q x ⊎ (P x × IsFirst P Q xs)

-- a stop that is not want of memory
abbrev pub IsTold : stuck.the_data → Type 0
IsTold (stuck.Solver (solver.Wide posed moves)) = ⊤
IsTold (stuck.Solver (solver.Spent posed moves)) = ⊤
IsTold (stuck.Solver solver.NoMemory) = ⊥
IsTold (stuck.Elimination (fm.Wide w)) = ⊤
IsTold (stuck.Elimination (fm.Crowded pairs)) = ⊤
IsTold (stuck.Elimination (fm.Large number)) = ⊥
IsTold (stuck.Elimination fm.NoMemory) = ⊥
IsTold stuck.NoMemory = ⊥

-- the question whether a dependence is empty is answered so
abbrev pub AnswersEmptiness : ℕ → Bool → Dependence → Type 0
AnswersEmptiness budget empty d = Empties (Ok empty) budget d.system

-- it is answered
abbrev pub IsAnswered : ℕ → Dependence → Type 0
IsAnswered budget d = (empty : Bool) × AnswersEmptiness budget empty d

-- it stops so
abbrev pub StopsEmptiness : ℕ → Dependence → stuck.the_data → Type 0
StopsEmptiness budget d (stuck.Solver stop) = Empties (Err stop) budget d.system
StopsEmptiness budget d (stuck.Elimination stop) = ⊥
StopsEmptiness budget d stuck.NoMemory = ⊥

-- the rows of a dependence by Farkas's lemma are found
abbrev pub IsRuledBy : ℕ → Dependence → Type 0
IsRuledBy budget d = (x : RuledDep) × (ruled_run budget d ≡ Ok x)

-- they stop so
abbrev pub StopsRows : ℕ → Dependence → stuck.the_data → Type 0
StopsRows budget d stuck = Follows (λ x. x) budget (Err stuck) (ruled_run budget d)

-- the rows of all dependences are those of the run with this budget
abbrev pub AreRuledBy : ℕ → List RuledDep → Type 0
AreRuledBy budget ruled = All (λ x. ruled_run budget x.dep ≡ Ok x) ruled

-- the question for the least point stops so
abbrev pub StopsMinimum : ℕ → Constraints → stuck.the_data → Type 0
StopsMinimum budget s (stuck.Solver stop) = Minimizes (Err stop) budget s
StopsMinimum budget s (stuck.Elimination stop) = ⊥
StopsMinimum budget s stuck.NoMemory = ⊥

-- of dependences as they are, whether each is empty: all are answered
abbrev pub AnswersFirst : ℕ → List Dependence → Type 0
AnswersFirst budget deps = All (IsAnswered budget) deps

-- the first that is not stops so
abbrev pub AsksFirst : ℕ → List Dependence → stuck.the_data → Type 0
AsksFirst budget deps stuck = IsFirst (IsAnswered budget) (λ d. StopsEmptiness budget d stuck) deps

-- where a band ends, whether each is empty at equal values of the band's rows: all are answered
abbrev pub AnswersRestricted : ℕ → List Marked → ℕ → List Dependence → Type 0
AnswersRestricted m rows budget deps = All (λ d. IsAnswered budget (restricted m rows d)) deps

-- the first that is not stops so
abbrev pub StopsRestricted : ℕ → List Marked → ℕ → List Dependence → stuck.the_data → Type 0
StopsRestricted m rows budget deps stuck =
    IsFirst (λ d. IsAnswered budget (restricted m rows d)) (λ d. StopsEmptiness budget (restricted m rows d) stuck) deps

-- of a new row, whether it rises nowhere on a dependence: it is answered so
abbrev pub AnswersMark : ℕ → Row → ℕ → Bool → Dependence → Type 0
AnswersMark m r budget level d = AnswersEmptiness budget level (above_at m r d)

-- of all, or up to the first on which it rises
abbrev pub AnswersMarks : ℕ → Row → ℕ → List Dependence → Type 0
AnswersMarks m r budget deps =
    All (AnswersMark m r budget true) deps ⊎ IsFirst (AnswersMark m r budget true) (AnswersMark m r budget false) deps

-- it rises on none before one, and the question of that one stops so
abbrev pub StopsMarks : ℕ → Row → ℕ → List Dependence → stuck.the_data → Type 0
StopsMarks m r budget deps stuck =
    IsFirst (AnswersMark m r budget true) (λ d. StopsEmptiness budget (above_at m r d) stuck) deps

-- the rows of the first dependence that has none stop so
abbrev pub StopsRowsOf : ℕ → List Dependence → stuck.the_data → Type 0
StopsRowsOf budget deps stuck = IsFirst (IsRuledBy budget) (λ d. StopsRows budget d stuck) deps

-- the posed system of a state's next row: all dependences that remain have their rows, and these are its kernel vectors
pub record IsPosedAt (m : ℕ) (loops : List ℕ) (budget : ℕ) (s : State) (posed : Constraints) : Type 0 where
  pub ruled : List RuledDep
  pub vectors : List (List (List ℤ))
  pub deps : map dep_of ruled ≡ s.remaining
  pub by_run : AreRuledBy budget ruled
  pub vectors_are : AreVectorsOf loops (rows_of s) vectors
  pub system : posed ≡ posed_system m loops ruled vectors

-- its least point is asked for, and answered
abbrev pub AnswersLeast : ℕ → List ℕ → ℕ → State → Option (Vec ℤ Global) → Type 0
AnswersLeast m loops budget s found =
    (posed : Constraints) × IsPosedAt m loops budget s posed × Minimizes (Ok found) budget posed

-- by the least row
abbrev pub FindsRow : ℕ → List ℕ → ℕ → State → Row → Type 0
FindsRow m loops budget s r =
    ((numbers : Vec ℤ Global) × AnswersLeast m loops budget s (Some numbers)) × IsLeast m loops s.remaining (rows_of s) r

-- or that there is none
abbrev pub FindsNone : ℕ → List ℕ → ℕ → State → Type 0
FindsNone m loops budget s = AnswersLeast m loops budget s None × HasNone m loops s.remaining (rows_of s)

-- of the least row, if it is not too large, the marks are answered
abbrev pub AnswersRow : ℕ → List ℕ → ℕ → State → Type 0
AnswersRow m loops budget s =
    (r : Row) × FindsRow m loops budget s r
    × ((IsWithin r × AnswersMarks m r budget s.remaining) ⊎ (IsWithin r → ⊥))

-- there is no row; if a band is open, all questions of its end are answered
abbrev pub AnswersNone : ℕ → List ℕ → ℕ → State → Type 0
AnswersNone m loops budget s =
    FindsNone m loops budget s
    × ((s.rows ≡ []) ⊎ ((s.rows ≡ [] → ⊥) × AnswersRestricted m s.rows budget s.remaining))

-- all questions of a state are answered: those of a band's end at full rank, else those of the next row
abbrev pub AnswersAt : ℕ → List ℕ → ℕ → State → Type 0
AnswersAt m loops budget s =
    (IsFull loops (rows_of s) × AnswersRestricted m s.rows budget s.remaining)
    ⊎ ((IsFull loops (rows_of s) → ⊥) × (AnswersRow m loops budget s ⊎ AnswersNone m loops budget s))

-- the least point of the posed system stops so
abbrev pub AsksLeast : ℕ → List ℕ → ℕ → State → stuck.the_data → Type 0
AsksLeast m loops budget s stuck =
    (posed : Constraints) × IsPosedAt m loops budget s posed × StopsMinimum budget posed stuck

-- a mark of the least row does
abbrev pub AsksMark : ℕ → List ℕ → ℕ → State → stuck.the_data → Type 0
AsksMark m loops budget s stuck =
    (r : Row) × FindsRow m loops budget s r × IsWithin r × StopsMarks m r budget s.remaining stuck

-- there is no row, and a question of the open band's end does
abbrev pub AsksEnd : ℕ → List ℕ → ℕ → State → stuck.the_data → Type 0
AsksEnd m loops budget s stuck =
    FindsNone m loops budget s × (s.rows ≡ [] → ⊥) × StopsRestricted m s.rows budget s.remaining stuck

-- of the questions of a state the first that is not answered stops so: at full rank one of a band's end, else one of
-- the rows of the dependences that remain, the least point, one of the marks, or one of the band's end
abbrev pub StopsAt : ℕ → List ℕ → ℕ → State → stuck.the_data → Type 0
StopsAt m loops budget s stuck =
    (IsFull loops (rows_of s) × StopsRestricted m s.rows budget s.remaining stuck)
    ⊎ ((IsFull loops (rows_of s) → ⊥)
    × (StopsRowsOf budget s.remaining stuck
    ⊎ (AsksLeast m loops budget s stuck ⊎ (AsksMark m loops budget s stuck ⊎ AsksEnd m loops budget s stuck))))

-- all questions of each state but the last are answered, from s along states
abbrev pub AnswersAlong : ℕ → List ℕ → ℕ → State → List State → Type 0
AnswersAlong m loops budget s [] = ⊤
AnswersAlong m loops budget s (t ∷ ts) = AnswersAt m loops budget s × AnswersAlong m loops budget t ts

-- the determined run of dependences comes to this state, and all questions before it are answered
pub record Answered (m : ℕ) (loops : List ℕ) (budget : ℕ) (deps : List Dependence) (s : State) : Type 0 where
  pub reached : Reached m loops deps s
  pub first : AnswersFirst budget deps
  pub along : AnswersAlong m loops budget (state [] [] reached.taken) reached.states

-- and there to this outcome, and all questions of that state are answered too
pub record ComesAnswered (m : ℕ) (loops : List ℕ) (budget : ℕ) (deps : List Dependence) (o : Outcome) : Type 0 where
  pub last : State
  pub answered : Answered m loops budget deps last
  pub own : AnswersAt m loops budget last
  pub next : Next m loops last o

-- of the questions of the search for the schedule of dependences the first that is not answered stops so: one of the
-- first, or one of a state that the run comes to
abbrev pub Stops : ℕ → List ℕ → ℕ → List Dependence → stuck.the_data → Type 0
Stops m loops budget deps stuck =
    IsTold stuck
    × (AsksFirst budget deps stuck
    ⊎ ((s : State) × Answered m loops budget deps s × StopsAt m loops budget s stuck))
