use Rattle.c_printer.proofs.TextsRead.{text_back}
use Rattle.c_printer.proofs.text_laws.printed_trees_are_read_back.Goals as goal

pub returns : goal.returns
returns c = text_back
