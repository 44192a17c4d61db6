-- What a search over a model's dependences comes to: a schedule for each program of the model, with its text, or a
-- cause that keeps the order.
use Rattle.scop_syntax.proofs.Common.{◌≡◌, ◌∙◌, sym, subst, ℕ, List, Option, Ok, In, Program}
use Rattle.iteration_domains.specs.Dependence.{Dependence}
use Rattle.iteration_domains.specs.Model.{KernelModel, model_of}
use Rattle.pluto_search.specs.Items.{Block}
use Rattle.pluto_search.specs.Next.{IsSizedDep}
use Rattle.pluto_search.specs.Outcomes.{IsSchedule}
use Rattle.pluto_search.specs.Schedule.{Scheduled, IsScheduled, loops_in}
use Rattle.pluto_search.specs.Searching.{Keeps, Searches}
use Rattle.pluto_search.specs.declared.kept.Kept.{Kept}
use Rattle.plan_certificate.specs.KeptLine.{KeptLine}
use Rattle.plan_certificate.specs.ScheduleText.{schedule_text, IsTextOf}
use Rattle.plan_search.specs.Planning.{line_of_kept, IsSearched}
use Rattle.plan_search.specs.Found.{HoldFor, IsFound, IsKeptLine, LieBetween}
use Rattle.plan_search.proofs.BetweenLemmas.{are_sized}

-- dependences have one schedule
abbrev pub OneSchedule : Type 0
OneSchedule = (m : ℕ) (loops : List ℕ) (deps : List Dependence) (blocks others : List Block)
    → IsSchedule m loops deps blocks → IsSchedule m loops deps others → blocks ≡ others

-- a search over dependences between a model's statements finds a schedule for each program whose covers they hold
pub found_of : (budget : ℕ) (deps : List Dependence) (model : KernelModel) (s : Scheduled) → LieBetween model deps
    → Searches model deps budget (Ok s) → IsFound budget deps model s
found_of budget deps model s between found = record {
  searches = found;
  own = λ program marked kernel own held. record {
    kernel = kernel;
    model = found.0 ∙ own;
    sized = subst (λ (m : KernelModel). (d : Dependence) → In d s.deps → IsSizedDep (loops_in m) d) (sym found.0)
        (subst (λ (ds : List Dependence). (d : Dependence) → In d ds → IsSizedDep (loops_in model) d) (sym found.1)
        (are_sized model deps between));
    covers = subst (HoldFor program marked) (sym found.1) held;
  };
}

-- the line of what keeps the order tells a cause that holds
pub kept_of : (budget : ℕ) (deps : List Dependence) (model : KernelModel) (cause : Kept) (line : Option KeptLine)
    → Keeps model.parameters (loops_in model) deps budget cause → line ≡ line_of_kept cause
    → IsKeptLine budget deps model line
kept_of budget deps model cause line keeps same = λ told is. (cause, keeps, sym same ∙ is)

-- what is found is searched
pub searched : (budget : ℕ) (deps : List Dependence) (model : KernelModel) (s : Scheduled)
    (found : IsFound budget deps model s) → IsSearched budget deps model found.searches.2.blocks
searched budget deps model s found =
    let is = found.searches in
    let Run : KernelModel → List Dependence → Type 0 =
    λ m ds. IsSchedule m.parameters (loops_in m) ds is.2.blocks in
    (subst (λ ds. Run model ds) is.1 (subst (λ m. Run m s.deps) is.0 is.2.run), is.3)

-- so for a program of the model
pub program_searched : (budget : ℕ) (deps : List Dependence) (program : Program) (model : KernelModel) (s : Scheduled)
    → model ≡ model_of program → (found : IsFound budget deps model s)
    → IsSearched budget deps (model_of program) found.searches.2.blocks
program_searched budget deps program model s own found =
    subst (λ m. IsSearched budget deps m found.searches.2.blocks) own (searched budget deps model s found)

-- the text of a schedule is that of its blocks
pub text_of_blocks : OneSchedule → (s : Scheduled) (is : IsScheduled s) (text : List ℕ) → IsTextOf s text
    → text ≡ schedule_text is.blocks
text_of_blocks one s is text told =
    let same = one s.model.parameters (loops_in s.model) s.deps told.blocks is.blocks told.run is.run in
    subst (λ blocks. text ≡ schedule_text blocks) same told.text_is
