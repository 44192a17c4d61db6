use Rattle.whole_numbers.proofs.Common.{◌+◌, ◌-◌, ◌++◌, ℤ, List, Vec, Global, set, ◌∙◌, ap, arith, pos, zeros}
use Rattle.null_space.specs.Narrowing.{units_from}
use Rattle.null_space.proofs.ListLoops.{views, views_more, units_step}
use Rattle.null_space.proofs.vectors.units.Goals as goal

pub loop-at-preserved : goal.loop-at-preserved
loop-at-preserved c =
    let n = c.args.columns in
    let i = c.loop-at.at in
    let rest = units_from n (i + 1) (n - (i + 1)) in
    ap (λ (l : List (Vec ℤ Global)). views l ++ rest) c.in_ok-push.ensures.items
    ∙ (views_more c.loop-at.units.items c.in_ok-unit.unit (set (zeros n) i (pos 1)) rest c.in_ok-unit.ensures
    ∙ (ap (λ (l : List (List ℤ)). views c.loop-at.units.items ++ l) (units_step n i (omega arith))
    ∙ c.loop-at.invariant))
