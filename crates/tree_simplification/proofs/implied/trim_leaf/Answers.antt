use Rattle.tree_simplification.proofs.Common.{ap, inl, inr, IfOk-weaker, nodes_of}
use Rattle.tree_simplification.proofs.implied.trim_leaf.Goals as goal

pub returns-then-branch : goal.returns-then-branch
returns-then-branch c = inr (ap nodes_of c.new.ensures.items, c.in_ok-never_speaks.ensures c.if-branch.true)

pub returns : goal.returns
returns c = IfOk-weaker c.instance_again.result _ _ (λ left is. inl is) c.instance_again.ensures
