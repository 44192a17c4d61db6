use Rattle.scop_syntax.proofs.Common.{◌≤◌, ◌^◌, length, subst, sym, unsigned_abs, All, All-push, map_end, map_more}
use Rattle.loop_tree.specs.Shape.{IsOver, IsOverUpTo}
use Rattle.loop_tree.specs.Tree.{Bound}
use Rattle.tree_simplification.specs.steps.Inlined.{bound_over}
use Rattle.tree_simplification.proofs.single.heads.all_bounds.Goals as goal

pub bound_at-requires-clause-count : goal.bound_at-requires-clause-count
bound_at-requires-clause-count c =
    subst (λ (b : Bound). IsOver (length c.args.forms.now) b.form) (sym c.bound-item.is)
    (c.requires.count c.loop-bound.bound-index c.bound-item.result c.loop-bound-test.true)

pub bound_at-requires-clause-divisor : goal.bound_at-requires-clause-divisor
bound_at-requires-clause-divisor c =
    subst (λ (b : Bound). unsigned_abs b.divisor ≤ 2 ^ 40) (sym c.bound-item.is)
    (c.requires.divisors c.loop-bound.bound-index c.bound-item.result c.loop-bound-test.true)

pub loop-bound-preserved : goal.loop-bound-preserved
loop-bound-preserved c =
    let made = c.in_ok-bound_at in
    let pushed = c.in_ok-push.ensures.pushed in (
      map_more (bound_over c.args.up c.args.variables c.args.forms.now) c.args.bounds.now c.loop-bound.bound-index
          c.bound-item.result made.field-0 c.loop-bound.all.items c.push.new.list.items _ c.loop-bound-test.true
          c.bound-item.is made.ensures.bound pushed c.loop-bound.invariant.0,
      subst (All (λ (b : Bound). IsOverUpTo (2 ^ 45) b.form b.divisor)) (sym pushed)
          (All-push (λ (b : Bound). IsOverUpTo (2 ^ 45) b.form b.divisor) c.loop-bound.all.items made.field-0
          c.loop-bound.invariant.1 made.ensures.small),
    )

pub returns-clause-bounds : goal.returns-clause-bounds
returns-clause-bounds c =
    map_end (bound_over c.args.up c.args.variables c.args.forms.now) c.args.bounds.now c.loop-bound.bound-index
    c.loop-bound.all.items _ c.loop-bound-test.false c.loop-bound.invariant.0
