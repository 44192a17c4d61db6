use Rattle.c_printer.proofs.ExampleTexts.{printed}
use Rattle.c_printer.proofs.examples.a_tree_and_its_text.Goals as goal

pub returns : goal.returns
returns c = printed
