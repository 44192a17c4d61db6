use Rattle.loop_tree.specs.Tree.{none}
use Rattle.text_callers.proofs.printed.empty_trees_are_read_back.Goals as goal

pub returns : goal.returns
returns c = λ program named. c.printed_trees_are_read_back.ensures program none named tt
