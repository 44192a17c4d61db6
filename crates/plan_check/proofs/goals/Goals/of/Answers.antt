use Rattle.scop_syntax.proofs.Common.{ℕ, List, All, sym, subst}
use Rattle.iteration_domains.specs.Dependence.{Dependence}
use Rattle.plan_check.specs.PlanView.{plan_of}
use Rattle.plan_check.specs.GoalList.{CanGo}
use Rattle.plan_check.proofs.Walks.{all_can}
use Rattle.plan_check.proofs.goals.Goals.of.Goals as goal

pub invariant_of-result : goal.invariant_of-result
invariant_of-result c =
    let model = c.args.model.now in
    let p = plan_of c.args.plan in
    let count = c.parameters-parameters.ensures.parameters in
    let one = c.parameters-parameters.ensures.kernel in
    record {
      walk_can = tt;
      deps_can = subst (λ (m : ℕ). All (CanGo m p) c.in_ok-deps.deps.items) (sym count)
          (subst (λ (ds : List Dependence). All (CanGo model.parameters p) ds) (sym c.in_ok-deps.ensures)
          (all_can model p (λ d h. c.systems_have_parts.ensures model d one h) c.requires.suits c.requires.up));
    }
