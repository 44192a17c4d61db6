use Rattle.c_printer.proofs.FlatTrees.{flat_printed}
use Rattle.c_printer.proofs.text_laws.flat_trees_can_be_printed.Goals as goal

pub returns : goal.returns
returns c = flat_printed
