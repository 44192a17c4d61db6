use Rattle.tree_simplification.proofs.Common.{◌+◌, subst, sym, ◌∙◌, bounds_in, ArePartsOver}
use Rattle.tree_simplification.proofs.Walks.{parts_over}
use Rattle.tree_simplification.proofs.implied.entered.Goals as goal

pub are_natural_above-requires : goal.are_natural_above-requires
are_natural_above-requires c =
    let n = c.args.context.now.loops + c.args.context.now.parameters in
    record {
      lows = subst (ArePartsOver n) (sym (c.deref.ensures.value ∙ c.in_ok-lower.ensures))
          (parts_over n (bounds_in c.args.head.now.lower) c.requires.over.0 c.requires.flat.0);
    }

pub sided-requires-clause-parts : goal.sided-requires-clause-parts
sided-requires-clause-parts c =
    let n = c.args.context.now.loops + c.args.context.now.parameters in
    subst (ArePartsOver n) (sym (c.deref-2.ensures.value ∙ c.in_ok-lower.ensures))
    (parts_over n (bounds_in c.args.head.now.lower) c.requires.over.0 c.requires.flat.0)

pub sided-requires-clause-others : goal.sided-requires-clause-others
sided-requires-clause-others c =
    let n = c.args.context.now.loops + c.args.context.now.parameters in
    subst (ArePartsOver n) (sym (c.deref-3.ensures.value ∙ c.in_ok-upper.ensures))
    (parts_over n (bounds_in c.args.head.now.upper) c.requires.over.1 c.requires.flat.1)
