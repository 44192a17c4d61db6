use Rattle.scop_syntax.proofs.Common.{◌≡◌, ◌-◌, ◌++◌, ◌∷◌, take, drop, length, subst, sym, rules, arith}
use Rattle.std.proofs.Common.{length-drop}
use Rattle.plain_scan.proofs.CodeBounds.{take_all}
use Rattle.split_scan.specs.steps.Ordering.{IsBelowAll, Rise}
use Rattle.split_scan.proofs.PartOrder.{rise_put}
use Rattle.split_scan.proofs.ordering.insert.Goals as goal

pub returns-clause-rise : goal.returns-clause-rise
returns-clause-rise c rise =
    let level = c.args.level.now in
    let ps = c.args.parts.now.items in
    let at = c.in_ok-at.at in
    let made : c.insert.new.self.items ≡ take at ps ++ c.args.part ∷ drop at ps = search rules in
    let whole = take_all (drop at ps) (length ps - at) (omega (arith, length-drop at ps)) in
    let above = subst (IsBelowAll level.place level.inside.items c.args.part) whole
    (rw c.deref-2.ensures.value at c.in_ok-all_above.ensures) in
    let below = rw c.deref.ensures.value at c.in_ok-at.ensures.below in
    subst (Rise level.place level.inside.items) (sym made)
    (rise_put level.place level.inside.items ps at c.args.part (λ k d l i. below k d l) above rise)
