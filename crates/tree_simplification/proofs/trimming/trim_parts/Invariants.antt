use Rattle.tree_simplification.proofs.Common.{TrimsSide, context_of}
use Rattle.tree_simplification.proofs.trimming.trim_parts.Given as goal

abbrev pub invariant-loop : goal.invariant-loop
invariant-loop l =
    TrimsSide (context_of l.fn.context) l.fn.turned l.fn.left.items l.fn.others l.left.items
