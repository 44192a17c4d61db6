use Rattle.scop_syntax.proofs.Common.{◌≡◌, ◌+◌, ◌∷◌, arith}
use Rattle.pluto_systems.specs.Posing.{ruled_dep, ruled_deps, equalities_for, rows_for}
use Rattle.pluto_systems.proofs.DependenceSystems.{rest, rest_step, rest_end, forms_step, sized_step, sized_end}
use Rattle.pluto_systems.proofs.posing.forms_of.Goals as goal

pub loop-at-preserved : goal.loop-at-preserved
loop-at-preserved c =
    let m = c.args.columns.now.parameters in
    let loops = c.args.columns.now.loops.now in
    let ds = c.args.deps.now in
    let ls = c.args.legal.now in
    let bs = c.args.bounded.now in
    let i = c.loop-at.at in
    let one = ruled_dep c.index-deps-at.result c.index-legal-at.result c.index-bounded-at.result in
    let whole = ruled_deps ds ls bs in
    let here = rest ds ls bs i in
    let more = rest ds ls bs (i + 1) in
    let step : here ≡ one ∷ more =
    rest_step ds ls bs i _ _ _ c.index-deps-at.result c.index-legal-at.result c.index-bounded-at.result
    c.index-deps-at.is
    c.index-legal-at.is c.index-bounded-at.is c.loop-at-test.true c.requires.legal c.requires.bounded in (
      forms_step (equalities_for m loops) c.loop-at.equal.items c.push_forms.new.equal.items one more here
          whole
          step c.in_ok-push_forms.ensures.equalities c.loop-at.invariant.0,
      forms_step (rows_for m loops) c.loop-at.rows.items c.push_forms.new.rows.items one more here whole
          step c.in_ok-push_forms.ensures.rows c.loop-at.invariant.1,
      sized_step whole here more one step c.in_ok-push_forms.ensures.sized c.loop-at.invariant.2,
    )

pub returns-clause-sized : goal.returns-clause-sized
returns-clause-sized c =
    let ds = c.args.deps.now in
    let ls = c.args.legal.now in
    let bs = c.args.bounded.now in
    let i = c.loop-at.at in
    sized_end (ruled_deps ds ls bs) (rest ds ls bs i) (rest_end ds ls bs i (omega arith)) c.loop-at.invariant.2
