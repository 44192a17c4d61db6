use Rattle.scop_syntax.proofs.Common.{◌≡◌, drop, fold, []}
use Rattle.scop_roles.specs.Resolving.{built, held}
use Rattle.scop_roles.proofs.formula.resolve.Given as goal

abbrev pub invariant-loop-node : goal.invariant-loop-node
invariant-loop-node g l =
    fold (built (g.N.Names.lookup l.names) l.first) (held l.stack.items) (drop l.node-index l.nodes)
    ≡ fold (built (g.N.Names.lookup l.names) l.first) [] l.nodes
