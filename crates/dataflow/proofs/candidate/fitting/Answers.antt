use Rattle.dataflow.proofs.Common.{◌∙◌, Ok, ap, refl, sym, tree_of, leaf_limit, nodes_fit}
use Rattle.dataflow.proofs.Fits.{fitting_no, fitting_yes}
use Rattle.dataflow.proofs.candidate.fitting.Goals as goal

pub returns-then-nodes_fit-clause-tree : goal.returns-then-nodes_fit-clause-tree
returns-then-nodes_fit-clause-tree c =
    fitting_yes (Ok (tree_of c.args.quast)) (tree_of c.args.quast) refl
    (sym (c.nodes_fit.ensures ∙ ap (nodes_fit leaf_limit) c.nodes.ensures.nodes) ∙ c.if-nodes_fit.true)

pub returns-else-nodes_fit-clause-tree : goal.returns-else-nodes_fit-clause-tree
returns-else-nodes_fit-clause-tree c =
    fitting_no (Ok (tree_of c.args.quast)) (tree_of c.args.quast) refl
    (sym (c.nodes_fit.ensures ∙ ap (nodes_fit leaf_limit) c.nodes.ensures.nodes) ∙ c.if-nodes_fit.false)
