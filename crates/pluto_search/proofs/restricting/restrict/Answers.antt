use Rattle.scop_syntax.proofs.Common.{◌∙◌, ap, map, subst, Ok, Bool, true, false}
use Rattle.iteration_domains.specs.Dependence.{Dependence}
use Rattle.schedule_rows.specs.Dependences.{IsEmptyDep}
use Rattle.schedule_rows.specs.Schedule.{marked_of}
use Rattle.pluto_search.specs.Questions.{AnswersEmptiness}
use Rattle.pluto_search.proofs.RestrictedDependences.{restricted_parameters}
use Rattle.pluto_search.proofs.restricting.restrict.Goals as goal

pub asked-requires : goal.asked-requires
asked-requires c =
    ap (λ (d : Dependence). d.system.parameters) c.in-Ok.ensures
    ∙ (restricted_parameters c.args.parameters (map marked_of c.args.rows.now) c.args.dep.now ∙ c.requires.parameters)

pub returns-in-Ok-true : goal.returns-in-Ok-true
returns-in-Ok-true c = (
  subst (λ (d : Dependence). IsEmptyDep c.args.parameters d) c.in-Ok.ensures
      (c.in-Ok-true.ensures.empty (ap Ok c.in-Ok-true.field-0-test)),
  subst (λ (d : Dependence). AnswersEmptiness c.args.budget true d) c.in-Ok.ensures
      (subst (λ (b : Bool). AnswersEmptiness c.args.budget b c.in-Ok.dep) c.in-Ok-true.field-0-test
      c.in-Ok-true.ensures.answered),
)

pub returns-in-Ok-false : goal.returns-in-Ok-false
returns-in-Ok-false c = (
  c.in-Ok.ensures,
  subst (λ (d : Dependence). IsEmptyDep c.args.parameters d → ⊥) c.in-Ok.ensures
      (c.in-Ok-false.ensures.point (ap Ok c.in-Ok-false.field-0-test)),
  subst (λ (d : Dependence). AnswersEmptiness c.args.budget false d) c.in-Ok.ensures
      (subst (λ (b : Bool). AnswersEmptiness c.args.budget b c.in-Ok.dep) c.in-Ok-false.field-0-test
      c.in-Ok-false.ensures.answered),
)
