-- What a search over a model's dependences comes to.
use Rattle.std.specs.Prelude.{◌≡◌, ℕ, ℤ, List, Option, Some, Ok}
use Rattle.scop_syntax.specs.Kernel.{IsKernel}
use Rattle.scop_syntax.specs.Limits.{HasParameters}
use Rattle.scop_syntax.specs.Members.{In}
use Rattle.scop_syntax.specs.Tree.{Program}
use Rattle.iteration_domains.specs.Dependence.{Dependence}
use Rattle.iteration_domains.specs.Held.{HoldCovers}
use Rattle.iteration_domains.specs.Model.{KernelModel, model_of}
use Rattle.dataflow.specs.Covering.{LiesBetween}
use Rattle.pluto_search.specs.Schedule.{Scheduled}
use Rattle.pluto_search.specs.Searching.{Searches}
use Rattle.plan_tree.specs.Schedules.{IsScheduleFor}
use Rattle.plan_certificate.specs.KeptLine.{KeptLine}
use Rattle.plan_search.specs.Planning.{IsCauseOf}

-- each dependence lies between two statements of the model
abbrev pub LieBetween : KernelModel → List Dependence → Type 0
LieBetween model deps = (d : Dependence) → In d deps → LiesBetween model d

-- for all parameters in 0..=65536 they hold the covers of the program's walk, but for those on marked arrays
abbrev pub HoldFor : Program → List ℕ → List Dependence → Type 0
HoldFor program marked deps =
    (params : List ℤ) → HasParameters program params → HoldCovers program params marked deps

-- what the search finds: a schedule for each program of the model whose covers they hold
pub record IsFound (budget : ℕ) (deps : List Dependence) (model : KernelModel) (s : Scheduled) : Type 0 where
  pub searches : Searches model deps budget (Ok s)
  pub own : (program : Program) (marked : List ℕ) → IsKernel program → model ≡ model_of program
      → HoldFor program marked deps → IsScheduleFor program marked s

-- a line, where there is one, tells a cause that holds
abbrev pub IsKeptLine : ℕ → List Dependence → KernelModel → Option KeptLine → Type 0
IsKeptLine budget deps model line = (told : KeptLine) → line ≡ Some told → IsCauseOf budget deps model told
