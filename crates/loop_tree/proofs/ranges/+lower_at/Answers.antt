use Rattle.scop_syntax.proofs.Common.{◌≡◌, ◌++◌, ◌<◌, ◌∷◌, List, length, ap, subst, rules, arith}
use Rattle.loop_tree.specs.steps.Chain.{values_at}
use Rattle.loop_tree.specs.Fits.{BoundsFit}
use Rattle.loop_tree.specs.Marks.{AreBounds}
use Rattle.loop_tree.specs.Tree.{Bound, bounds_of}
use Rattle.loop_tree.proofs.FirstBounds.{first_divisor, first_fits}
use Rattle.loop_tree.proofs.ranges.+lower_at.Goals as goal

pub ceiling_at-here-requires-clause-divisor : goal.ceiling_at-here-requires-clause-divisor
ceiling_at-here-requires-clause-divisor t c = first_divisor c.args.first.now c.args.others.now c.requires.divisors

pub ceiling_at-here-requires-clause-fits : goal.ceiling_at-here-requires-clause-fits
ceiling_at-here-requires-clause-fits t c =
    first_fits c.args.first.now c.args.others.now (values_at c.args.point.now ++ c.args.params.now) c.requires.fits

pub lower_at-requires : goal.lower_at-requires
lower_at-requires t c =
    let first = c.args.first.now in
    let point = values_at c.args.point.now ++ c.args.params.now in
    let is : c.args.others.now ≡ c.in-Some.next.now ∷ c.in-Some.others.now = c.in-Some.ensures.cases.0 in
    let divisors : AreBounds (bounds_of c.in-Some.next.now c.in-Some.others.now) =
    (subst (λ (bs : List Bound). AreBounds (bounds_of first bs)) is c.requires.divisors).1 in
    let fits : BoundsFit (bounds_of c.in-Some.next.now c.in-Some.others.now) point =
    (subst (λ (bs : List Bound). BoundsFit (bounds_of first bs) point) is c.requires.fits).1 in
    let l = ap (λ (bs : List Bound). length bs) is in
    let less : length c.in-Some.others.now < length c.args.others.now = omega (arith, l) in
    search rules
