use Rattle.whole_numbers.proofs.Common.{subst, sym}
use Rattle.quast_trees.specs.Source.{Forms}
use Rattle.quast_trees.specs.declared.node.Node.TheVariants as Node
use Rattle.quast_joins.specs.Limits.{leaf_limit}
use Rattle.quast_joins.specs.Steps.{FitsAt}
use Rattle.quast_joins.proofs.Marks.{shifted_fits, widened_fits}
use Rattle.quast_joins.proofs.nodes.push_leaves.Goals as goal

pub push_meet-requires-clause-first : goal.push_meet-requires-clause-first
push_meet-requires-clause-first c =
    subst (λ (l : Forms). FitsAt leaf_limit l.variables (Node.Forms l) 0) (sym c.in_ok-first.ensures)
    (widened_fits c.args.variables c.args.more c.args.binds c.args.leaf.now c.requires.leaf)

pub push_meet-requires-clause-second : goal.push_meet-requires-clause-second
push_meet-requires-clause-second c =
    subst (λ (l : Forms). FitsAt leaf_limit l.variables (Node.Forms l) 0) (sym c.in_ok-second.ensures)
    (shifted_fits c.args.variables c.args.more c.args.binds c.args.other.now c.requires.other)
