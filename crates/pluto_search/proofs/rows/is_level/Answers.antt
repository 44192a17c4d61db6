use Rattle.scop_syntax.proofs.Common.{subst, IfOk}
use Rattle.iteration_domains.specs.Dependence.{Dependence}
use Rattle.schedule_rows.specs.Dependences.{IsEmptyDep}
use Rattle.pluto_search.specs.Questions.{AnswersEmptiness}
use Rattle.pluto_search.proofs.rows.is_level.Goals as goal

pub returns-in-Ok-clause-level : goal.returns-in-Ok-clause-level
returns-in-Ok-clause-level c h =
    subst (λ (d : Dependence). IsEmptyDep c.args.search.now.parameters d) c.in-Ok.ensures (c.asked.ensures.empty h)

pub returns-in-Ok-clause-rises : goal.returns-in-Ok-clause-rises
returns-in-Ok-clause-rises c h =
    subst (λ (d : Dependence). IsEmptyDep c.args.search.now.parameters d → ⊥) c.in-Ok.ensures (c.asked.ensures.point h)

pub returns-in-Ok-clause-answered : goal.returns-in-Ok-clause-answered
returns-in-Ok-clause-answered c =
    subst (λ (d : Dependence). IfOk c.asked.result (λ level. AnswersEmptiness c.args.search.now.budget level d))
    c.in-Ok.ensures c.asked.ensures.answered
