use Rattle.scop_syntax.proofs.Common.{rules, refl, subst, sym, member_at}
use Rattle.integer_sets.specs.Scanned.{Scanned}
use Rattle.fm_projection.specs.Alone.{IsBounded}
use Rattle.plain_scan.specs.Hulls.{sets_in}
use Rattle.plain_scan.specs.steps.Shadows.{IsOpenSomewhere}
use Rattle.plain_scan.proofs.OpenProjections.{open_has_none}
use Rattle.plain_scan.proofs.ShadowStops.{scan_stops}
use Rattle.plain_scan.proofs.WholeScans.{kept_next, left_next}
use Rattle.plain_scan.proofs.tree_of_sets.outlines_of.Goals as goal
use Rattle.plain_scan.proofs.tree_of_sets.outlines_of.Goals.{in-Ok-None, in-Ok-Some+in-Ok}

pub loop-set-preserved : goal.loop-set-preserved
loop-set-preserved c =
    let sets = c.args.sets.now in
    let i = c.loop-set.set-index in
    let s = c.set-item.result in
    let is = c.set-item.is in
    let inside = c.loop-set-test.true in
    let old = c.loop-set.outlines.items in
    let inv = c.loop-set.invariant in
    elim c.match-this.branch [
      | in-Ok-None w ↦
          let there : IsOpenSomewhere s.system = search rules in
          rw w.outlines-is
          (left_next sets i s (sets_in old) is inside (open_has_none s.system
          (subst (λ (q : Scanned). IsBounded q.system) (sym is) (c.requires i s inside).bounded) there) inv)
      | in-Ok-Some+in-Ok w ↦
          rw w.outlines-is (kept_next sets i s old w.push.new.self.items _ is inside refl w.in-Ok.ensures.items inv)
    ]

pub returns-in-Err-clause-stops : goal.returns-in-Err-clause-stops
returns-in-Err-clause-stops c =
    let sets = c.args.sets.now in
    let s = c.set-item.result in
    scan_stops sets s c.in-Err.stop
    (member_at sets c.loop-set.set-index s c.set-item.is c.loop-set-test.true) c.in-Err.ensures.stops
