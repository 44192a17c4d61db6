use Rattle.scop_syntax.proofs.Common.{◌∙◌, IfOk-weaker}
use Rattle.loop_tree.specs.Tree.{none as no_trees}
use Rattle.text_callers.proofs.printed.tree_of_a_text.Goals as goal

pub returns-clause-none : goal.returns-clause-none
returns-clause-none c named =
    IfOk-weaker c.read_back.result _ _ (λ read law is. law is no_trees tt) (c.read_back.ensures.none named)

pub returns-clause-read : goal.returns-clause-read
returns-clause-read c = IfOk-weaker c.read_back.result _ _ (λ read is none. is ∙ none) c.read_back.ensures.read
