use Rattle.scop_syntax.proofs.Common.{◌≡◌, ◌∙◌, Some, ap, sym, slice_get, IfOk-weaker}
use Rattle.plan_check.specs.PlanView.{plan_of, row_of}
use Rattle.iteration_domains.specs.Dependence.{Dependence}
use Rattle.plan_check.specs.GoalList.{band_goals_at}
use Rattle.plan_check.proofs.Walks.{band_fits, get_mapped, if_finds, rest_of_row}
use Rattle.plan_check.proofs.walk.rising_goal.Goals as goal

pub second_goal-requires : goal.second_goal-requires
second_goal-requires c =
    let p = plan_of c.args.plan.now in
    let r = row_of c.in-Some.row.now in
    let got : slice_get p.band c.args.at ≡ Some r =
    get_mapped row_of c.args.plan.now.band.items c.args.at c.in-Some.row.now (sym c.in-Some.ensures) in
    band_fits c.args.parameters p c.args.dep c.args.at r c.requires got

pub returns-then-row : goal.returns-then-row
returns-then-row c =
    let p = plan_of c.args.plan.now in
    let r = row_of c.in-Some.row.now in
    let got : slice_get p.band c.args.at ≡ Some r =
    get_mapped row_of c.args.plan.now.band.items c.args.at c.in-Some.row.now (sym c.in-Some.ensures) in
    IfOk-weaker c.second_goal.result _ _ (λ f found. found p c.requires got c.if-row.true) c.second_goal.ensures

pub returns-in_ok-behind-in-Some : goal.returns-in_ok-behind-in-Some
returns-in_ok-behind-in-Some c =
    let p = plan_of c.args.plan.now in
    let m = c.args.parameters in
    let r = row_of c.in-Some.row.now in
    let got : slice_get p.band c.args.at ≡ Some r =
    get_mapped row_of c.args.plan.now.band.items c.args.at c.in-Some.row.now (sym c.in-Some.ensures) in
    if_finds c.band_goal.result m p _ _
    (rest_of_row m p c.args.dep c.args.at c.in_ok-behind-in-Some.field-0 r got c.if-row.false
    c.in_ok-behind-in-Some.ensures
    ∙ ap (λ (d : Dependence). band_goals_at m p d c.in_ok-behind-in-Some.field-0) (sym c.dep-in-Some.view_is))
    c.band_goal.ensures
