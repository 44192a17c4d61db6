use Rattle.scop_syntax.proofs.Common.{◌≡◌, None, Some, sym, slice_get, IfOk-weaker}
use Rattle.plan_check.specs.PlanView.{plan_of, row_of}
use Rattle.plan_check.proofs.Walks.{band_end, band_fits, get_mapped, get_none, if_finds}
use Rattle.plan_check.proofs.walk.band_goal.Goals as goal

pub first_goal-requires : goal.first_goal-requires
first_goal-requires c =
    let p = plan_of c.args.plan.now in
    let r = row_of c.in-Some.row.now in
    let got : slice_get p.band c.args.at ≡ Some r =
    get_mapped row_of c.args.plan.now.band.items c.args.at c.in-Some.row.now (sym c.in-Some.ensures) in
    band_fits c.args.parameters p c.args.dep c.args.at r c.requires got

pub returns-in-Some : goal.returns-in-Some
returns-in-Some c =
    let p = plan_of c.args.plan.now in
    let r = row_of c.in-Some.row.now in
    let got : slice_get p.band c.args.at ≡ Some r =
    get_mapped row_of c.args.plan.now.band.items c.args.at c.in-Some.row.now (sym c.in-Some.ensures) in
    IfOk-weaker c.first_goal.result _ _ (λ f found. found p c.requires got) c.first_goal.ensures

pub returns-in_ok-dep-in-None : goal.returns-in_ok-dep-in-None
returns-in_ok-dep-in-None c =
    let p = plan_of c.args.plan.now in
    let m = c.args.parameters in
    let none : slice_get p.band c.args.at ≡ None =
    get_none row_of c.args.plan.now.band.items c.args.at (sym c.in-None.ensures) in
    if_finds c.later_goal.result m p _ _ (band_end m p c.args.dep _ c.args.at none c.in_ok-dep-in-None.ensures.restricted)
    c.later_goal.ensures
