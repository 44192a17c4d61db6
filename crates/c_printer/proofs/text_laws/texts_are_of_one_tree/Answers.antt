use Rattle.c_printer.proofs.TextsRead.{one_tree}
use Rattle.c_printer.proofs.text_laws.texts_are_of_one_tree.Goals as goal

pub returns : goal.returns
returns c = one_tree
