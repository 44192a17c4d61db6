use Rattle.scop_syntax.proofs.Common.{refl, sym, subst, composed, map_more, map_end}
use Rattle.iteration_domains.specs.Sizes.{CanCompose}
use Rattle.iteration_domains.proofs.accesses.subscripts_within.Goals as goal

pub push_composed-requires : goal.push_composed-requires
push_composed-requires c =
    subst (CanCompose c.args.variables c.args.forms.now) (sym c.subscript-item.is)
    (c.requires c.loop-subscript.subscript-index c.subscript-item.result c.loop-subscript-test.true)

pub loop-subscript-preserved : goal.loop-subscript-preserved
loop-subscript-preserved c =
    map_more (λ form. composed form c.args.forms.now c.args.variables) c.args.subscripts.now
    c.loop-subscript.subscript-index c.subscript-item.result _ c.loop-subscript.composed.items
    c.push_composed.new.out.items _ c.loop-subscript-test.true c.subscript-item.is refl c.in_ok-push_composed.ensures
    c.loop-subscript.invariant

pub returns : goal.returns
returns c =
    map_end (λ form. composed form c.args.forms.now c.args.variables) c.args.subscripts.now
    c.loop-subscript.subscript-index c.loop-subscript.composed.items _ c.loop-subscript-test.false
    c.loop-subscript.invariant
