use Rattle.pluto_systems.specs.Posing.{equalities_for, rows_for}
use Rattle.pluto_systems.proofs.DependenceSystems.{ruled_step}
use Rattle.pluto_systems.proofs.posing.forms_over.Goals as goal

pub loop-one-preserved : goal.loop-one-preserved
loop-one-preserved c =
    let m = c.args.columns.now.parameters in
    let loops = c.args.columns.now.loops.now in (
      ruled_step (equalities_for m loops) c.loop-one.equal.items c.push_forms.new.equal.items c.args.ruled.now
          c.loop-one.one-index _ c.one-item.result c.dep-dep.result.now c.legal-legal.result.now
          c.bounded-bounded.result.now
          c.loop-one-test.true c.one-item.is c.dep-dep.ensures c.legal-legal.ensures c.bounded-bounded.ensures
          c.in_ok-push_forms.ensures.equalities c.loop-one.invariant.0,
      ruled_step (rows_for m loops) c.loop-one.rows.items c.push_forms.new.rows.items c.args.ruled.now
          c.loop-one.one-index _ c.one-item.result c.dep-dep.result.now c.legal-legal.result.now
          c.bounded-bounded.result.now
          c.loop-one-test.true c.one-item.is c.dep-dep.ensures c.legal-legal.ensures c.bounded-bounded.ensures
          c.in_ok-push_forms.ensures.rows c.loop-one.invariant.1,
    )
