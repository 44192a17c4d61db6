use Rattle.scop_syntax.proofs.Common.{◌≡◌, Some, List, subst, sym, slice_get, Affine}
use Rattle.plan_check.specs.PlanView.{plan_of, row_of}
use Rattle.plan_check.specs.steps.Walks.{FitsRow}
use Rattle.plan_check.proofs.Walks.{band_fits, can_row_equal, get_mapped, restricted_as}
use Rattle.plan_check.proofs.walk.in_band.Goals as goal

pub equal-requires : goal.equal-requires
equal-requires c =
    let m = c.args.parameters in
    let p = plan_of c.args.plan.now in
    let r = row_of c.in-Some.row.now in
    let got : slice_get p.band c.loop-at.at ≡ Some r =
    get_mapped row_of c.args.plan.now.band.items c.loop-at.at c.in-Some.row.now (sym c.in-Some.ensures) in
    subst (λ (fs : List Affine). FitsRow m c.loop-at.dep fs) (sym c.deref.ensures.value)
    (band_fits m p c.loop-at.dep c.loop-at.at r c.loop-at.invariant.1 got)

pub loop-at-preserved : goal.loop-at-preserved
loop-at-preserved c =
    let m = c.args.parameters in
    let p = plan_of c.args.plan.now in
    let d = c.loop-at.dep in
    let r = row_of c.in-Some.row.now in
    let got : slice_get p.band c.loop-at.at ≡ Some r =
    get_mapped row_of c.args.plan.now.band.items c.loop-at.at c.in-Some.row.now (sym c.in-Some.ensures) in (
      restricted_as m d _ _ p.band c.loop-at.at r c.deref.result.now c.deref.ensures.value got
          c.in_ok-dep-in-Some.ensures c.loop-at.invariant.0,
      can_row_equal m p d _ c.deref.result.now c.in_ok-dep-in-Some.ensures c.loop-at.invariant.1,
    )
