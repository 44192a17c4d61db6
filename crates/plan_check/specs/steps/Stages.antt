-- What a stage of reading keeps, and what a line that was read has.
use Rattle.std.specs.Prelude.{◌≡◌, ◌≤◌, ℕ, List, All, ⊤}
use Rattle.scop_lexer.specs.Bytes.{Text}
use Rattle.iteration_domains.specs.Model.{KernelModel}
use Rattle.plan_check.specs.Goals.{HasNoPoint, goals_in, loops_in}
use Rattle.plan_check.specs.Judged.{Laid, Stage, laying, proving, plan_of_lines}
use Rattle.plan_check.specs.Plans.{Plan, Suits, IsUp}
use Rattle.plan_check.specs.Text.{Said, row, scalar, goal, step, IsStep}

-- the items in so many lines
pub record IsLaid (loops : List ℕ) (k : ℕ) (l : Laid) : Type 0 where
  pub suits : Suits loops l.plan
  pub up : IsUp l.plan
  pub few : l.rows ≤ k

-- a stage that comes to this plan by the lines behind it
abbrev pub IsStage : KernelModel → Plan → ℕ → List Text → Stage → Type 0
IsStage model plan k ls (laying l) = IsLaid (loops_in model) k l × (plan_of_lines (loops_in model) l ls ≡ plan)
IsStage model plan k ls (proving p) = Suits (loops_in model) plan × (p.goals ≡ goals_in model plan)

-- what code asks of a stage alone
abbrev pub IsReady : List ℕ → ℕ → Stage → Type 0
IsReady loops k (laying l) = IsLaid loops k l
IsReady loops k (proving p) = ⊤

-- the numbers of a step are at least 1
abbrev pub HasFactors : Said → Type 0
HasFactors (row r) = ⊤
HasFactors (scalar s) = ⊤
HasFactors (goal g) = ⊤
HasFactors (step s) = IsStep s

-- no goal of the plan has a whole point
pub record PlanHolds (model : KernelModel) (plan : Plan) : Type 0 where
  pub suits : Suits (loops_in model) plan
  pub none : All HasNoPoint (goals_in model plan)
