use Rattle.scop_syntax.proofs.Common.{rules, ◌≡◌, ◌∙◌, ◌<◌, ◌≤◌, Some, ap, refl, length, subst, sym, slice_get}
use Rattle.scop_syntax.proofs.Common.{flat_map, slice_get_past, slice_get_read}
use Rattle.plan_check.specs.Goals.{goals_of}
use Rattle.plan_check.specs.PlanView.{plan_of}
use Rattle.plan_check.specs.steps.Walks.{Finds}
use Rattle.plan_check.proofs.Walks.{drop_past, taken_found, taken_none}
use Rattle.plan_check.proofs.walk.first_taken.Goals as goal

pub loop-at-preserved : goal.loop-at-preserved
loop-at-preserved c =
    let m = c.args.parameters in
    let p = plan_of c.args.plan.now in
    let deps = c.args.deps.now in
    let within : c.loop-at.at < length deps = search rules in
    let got : slice_get deps c.loop-at.at ≡ Some c.index-deps-at.result =
    slice_get_read deps (length deps) c.loop-at.at c.index-deps-at.result refl within c.index-deps-at.is in
    taken_none m p c.args.deps.now c.loop-at.at c.index-deps-at.result _ _ got c.in_ok-walk.ensures.goals
    (subst (Finds m p _) c.in-None.is c.in_ok-next_in.ensures) c.loop-at.invariant

pub returns-in-Some : goal.returns-in-Some
returns-in-Some c =
    let m = c.args.parameters in
    let p = plan_of c.args.plan.now in
    let found = subst (Finds m p _) c.in-Some.is c.in_ok-next_in.ensures in
    let deps = c.args.deps.now in
    let within : c.loop-at.at < length deps = search rules in
    let got : slice_get deps c.loop-at.at ≡ Some c.index-deps-at.result =
    slice_get_read deps (length deps) c.loop-at.at c.index-deps-at.result refl within c.index-deps-at.is in (
      taken_found m p c.args.deps.now c.loop-at.at c.index-deps-at.result _ _ _ _ got c.in_ok-walk.ensures.goals
          found.0 c.loop-at.invariant,
      found.1,
    )

pub returns : goal.returns
returns c =
    let m = c.args.parameters in
    let p = plan_of c.args.plan.now in
    let past : length c.args.deps.now ≤ c.loop-at.at = search rules in
    sym c.loop-at.invariant
    ∙ ap (flat_map (goals_of m p)) (drop_past c.args.deps.now c.loop-at.at (slice_get_past c.args.deps.now c.loop-at.at past))
