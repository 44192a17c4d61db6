-- From what a search answers to the text that is printed.
use Rattle.scop_syntax.proofs.Common.{◌≡◌, inl, inr, subst, ℕ, List, [], Option}
use Rattle.iteration_domains.specs.Dependence.{Dependence}
use Rattle.iteration_domains.specs.Model.{KernelModel}
use Rattle.dataflow.specs.Covering.{covers_of}
use Rattle.pluto_search.specs.Schedule.{Scheduled}
use Rattle.plan_certificate.specs.KeptLine.{KeptLine}
use Rattle.plan_certificate.specs.KeptText.{kept_text}
use Rattle.plan_certificate.specs.ScheduleText.{IsTextOf}
use Rattle.plan_search.specs.Planning.{IsCauseOf, IsLineText, IsPlanOf, IsSearched}
use Rattle.plan_search.specs.Found.{IsFound, IsKeptLine}
use Rattle.plan_search.proofs.SearchLemmas.{OneSchedule, searched, text_of_blocks}

-- the text of the schedule that is found over the covers
pub schedule_is_plan : OneSchedule → (budget : ℕ) (deps : List Dependence) (model : KernelModel) (s : Scheduled)
    (text : List ℕ) → deps ≡ covers_of budget [] model → IsFound budget deps model s → IsTextOf s text
    → IsPlanOf budget model text
schedule_is_plan one budget deps model s text covers found is =
    let blocks = found.searches.2.blocks in
    inl (
      blocks,
      subst (λ ds. IsSearched budget ds model blocks) covers (searched budget deps model s found),
      text_of_blocks one s found.searches.2 text is,
    )

-- the text of the line of what keeps the order
pub kept_cause : (budget : ℕ) (deps : List Dependence) (model : KernelModel) (line : Option KeptLine) (text : List ℕ)
    → IsKeptLine budget deps model line → IsLineText line text
    → (told : KeptLine) × IsCauseOf budget deps model told × (text ≡ kept_text told)
kept_cause budget deps model line text kept is = (is.0, kept is.0 is.1, is.2)

-- so over the covers
pub kept_is_plan : (budget : ℕ) (deps : List Dependence) (model : KernelModel) (line : Option KeptLine) (text : List ℕ)
    → deps ≡ covers_of budget [] model → IsKeptLine budget deps model line → IsLineText line text
    → IsPlanOf budget model text
kept_is_plan budget deps model line text covers kept is =
    inr
    (subst (λ ds. (told : KeptLine) × IsCauseOf budget ds model told × (text ≡ kept_text told)) covers
    (kept_cause budget deps model line text kept is))
