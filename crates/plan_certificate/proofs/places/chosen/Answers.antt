use Rattle.scop_syntax.proofs.Common.{rules, FitsSigned, w128, to_z-of_z}
use Rattle.plan_certificate.specs.steps.Places.{test_of}
use Rattle.plan_certificate.proofs.TightestPlaces.{chosen_more}
use Rattle.plan_certificate.proofs.places.chosen.Goals as goal

pub loop-at-preserved : goal.loop-at-preserved
loop-at-preserved c =
    let l = c.loop-at in
    let fits : FitsSigned w128 c.coefficient_at.result = search rules in
    chosen_more (test_of c.args.sign) c.args.variable c.args.rows.now c.args.places.now l.at c.coefficient_at.result
    c.passes-stays.result l.out.items c.push_if.new.out.items _ c.loop-at-test.true c.coefficient_at.ensures
    (simp to_z-of_z at c.passes-stays.ensures) c.in-Ok.ensures l.invariant
