use Rattle.scop_syntax.proofs.Common.{[], ◌+◌, ◌<◌, ◌∙◌, ap₂, refl, sym, subst, length, instance}
use Rattle.scop_syntax.proofs.Sizes.{params_not_negative}
use Rattle.iteration_domains.specs.Model.{model_of}
use Rattle.iteration_domains.proofs.TreeStatements.{one_model}
use Rattle.conflict_deps.specs.Conflicts.{conflicts_of}
use Rattle.plan_check.specs.Goals.{HasNoPoint, bounded, goals_of}
use Rattle.plan_check.proofs.ConflictPairs.{ends_of, band_suits, items_suit}
use Rattle.plan_check.proofs.GoalPoints.{IsPairOf, all_of, pair_bounded}
use Rattle.plan_check.proofs.PlanOrder.{pair_in_order}
use Rattle.plan_check.proofs.plan_laws.goals_without_points_make_good_plans.Goals as goal

pub returns : goal.returns
returns c program plan params size kernel count range positive suits none i j p =
    let model = model_of program in
    let deps = conflicts_of model in
    let m = model.parameters in
    let n = length model.statements in
    let found = c.conflicts_are_the_points_of_the_systems.ensures.conflicts program params [] i j p refl count
    (params_not_negative params range) in
    let d = found.0 in
    let point = found.1 in
    let one = one_model program kernel (c.statements_are_numbered.ensures.same program)
    (c.statements_are_numbered.ensures.number program) in
    let ends = ends_of model d (c.systems_have_parts.ensures model d one point.among) in
    let pair : IsPairOf m d p.earlier.turns p.later.turns params = record {
      source = point.source;
      target = point.target;
      count = count;
      range = range;
      dimensions = ends.dimensions ∙ sym (ap₂ (λ a b. a + b) point.source point.target);
      holds = point.holds;
    } in
    let source = sym found.2.statement in
    let target = sym found.3.statement in
    let first : p.earlier.number < n = subst (λ k. k < n) (sym source) ends.source in
    let second : p.later.number < n = subst (λ k. k < n) (sym target) ends.target in
    pair_in_order m size n i j (bounded m d) plan (instance p.earlier) (instance p.later) params (pair_bounded m d p.earlier.turns p.later.turns params pair) source target first second
    positive (band_suits model d plan.band ends suits.band) (items_suit model d plan.behind ends suits.behind)
    (all_of HasNoPoint (goals_of m plan) deps d point.among none)
