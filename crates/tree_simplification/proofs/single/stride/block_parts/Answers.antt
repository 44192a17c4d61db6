use Rattle.scop_syntax.proofs.Common.{◌^◌, subst, sym, All, All-push, map_end, map_more}
use Rattle.loop_tree.specs.Shape.{IsOverUpTo}
use Rattle.loop_tree.specs.Tree.{Bound}
use Rattle.tree_simplification.specs.steps.Strided.{block}
use Rattle.tree_simplification.proofs.single.stride.block_parts.Goals as goal

pub block_part-requires-clause-small : goal.block_part-requires-clause-small
block_part-requires-clause-small c =
    subst (λ (b : Bound). IsOverUpTo (2 ^ 40) b.form b.divisor) (sym c.part-item.is)
    (c.requires.small c.loop-part.part-index c.part-item.result c.loop-part-test.true)

pub loop-part-preserved : goal.loop-part-preserved
loop-part-preserved c =
    let made = c.in_ok-block_part in
    let pushed = c.in_ok-push.ensures.pushed in (
      map_more (block c.args.by c.args.at) c.args.parts.now c.loop-part.part-index
          c.part-item.result made.field-0 c.loop-part.all.items c.push.new.list.items _ c.loop-part-test.true
          c.part-item.is made.ensures.part pushed c.loop-part.invariant.0,
      subst (All (λ (b : Bound). IsOverUpTo (2 ^ 40) b.form b.divisor)) (sym pushed)
          (All-push (λ (b : Bound). IsOverUpTo (2 ^ 40) b.form b.divisor) c.loop-part.all.items made.field-0
          c.loop-part.invariant.1 made.ensures.small),
    )

pub returns-clause-parts : goal.returns-clause-parts
returns-clause-parts c =
    map_end (block c.args.by c.args.at) c.args.parts.now c.loop-part.part-index
    c.loop-part.all.items _ c.loop-part-test.false c.loop-part.invariant.0
