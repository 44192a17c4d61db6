use Rattle.loop_tree.specs.Tree.{none}
use Rattle.text_callers.proofs.printed.texts_of_empty_trees.Goals as goal

pub returns : goal.returns
returns c = λ program ts named nodes. c.texts_are_of_one_tree.ensures program ts none named nodes tt
