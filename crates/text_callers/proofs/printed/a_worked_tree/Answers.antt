use Rattle.text_callers.proofs.printed.a_worked_tree.Goals as goal

pub returns : goal.returns
returns c = c.a_tree_and_its_text.ensures
