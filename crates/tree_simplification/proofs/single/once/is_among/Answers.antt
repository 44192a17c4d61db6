use Rattle.tree_simplification.proofs.Common.{subst, sym, In, member_at, Bound}
use Rattle.tree_simplification.proofs.single.once.is_among.Goals as goal

pub returns-then-same_part : goal.returns-then-same_part
returns-then-same_part c same =
    subst (λ (b : Bound). In b c.args.parts.now) (sym (c.same_part.ensures c.if-same_part.true))
    (member_at c.args.parts.now c.loop-other.other-index c.other-item.result c.other-item.is c.loop-other-test.true)
