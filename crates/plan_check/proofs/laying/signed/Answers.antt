use Rattle.scop_syntax.proofs.Common.{rules, ◌≡◌, pos, arith, FitsSigned, get_or, get_or_default}
use Rattle.scop_syntax.proofs.Common.{map_end, map_more, w128, to_z-of_z}
use Rattle.plan_check.proofs.laying.signed.Goals as goal

pub loop-at-preserved : goal.loop-at-preserved
loop-at-preserved c =
    let l = c.loop-at in
    let ns = c.args.numbers.now in
    let z = c.in-Ok.number in
    let fits : FitsSigned w128 z = search rules in
    let is : z ≡ pos (get_or ns l.at 0) = search rules in
    map_more (λ n. pos n) ns l.at (get_or ns l.at 0) z l.found.items c.push.new.list.items _ c.loop-at-test.true
    (get_or_default ns l.at 0 _ c.loop-at-test.true) is (simp to_z-of_z at c.in-Ok-push.ensures.pushed) l.invariant

pub returns : goal.returns
returns c =
    map_end (λ n. pos n) c.args.numbers.now c.loop-at.at c.loop-at.found.items _ (omega (arith, c.loop-at-test.false))
    c.loop-at.invariant
