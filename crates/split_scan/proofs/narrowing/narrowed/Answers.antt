use Rattle.scop_syntax.proofs.Common.{◌+◌, subst, sym, All}
use Rattle.plain_scan.specs.Hulls.{sets_in}
use Rattle.split_scan.specs.steps.Questions.{IsCut}
use Rattle.split_scan.specs.steps.Narrowing.{HoldAtKeys}
use Rattle.split_scan.proofs.narrowing.narrowed.Goals as goal

pub returns : goal.returns
returns c =
    let level = c.args.level.now in
    let m = level.place in
    let made = c.in_ok-parts.ensures in
    let inv = c.loop-outline.invariant in (
      made.0,
      made.1,
      made.3,
      subst (All (IsCut m (m + 1 + level.parameters))) (sym made.2) inv.cuts,
      subst (HoldAtKeys m level.inside.items (sets_in c.args.outlines.now)) (sym made.2) inv.hold,
    )
