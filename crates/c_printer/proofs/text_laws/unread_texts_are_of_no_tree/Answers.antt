use Rattle.c_printer.proofs.Shapes.{read_is_printable}
use Rattle.c_printer.proofs.TextsRead.{no_tree, read_prints}
use Rattle.c_printer.proofs.text_laws.unread_texts_are_of_no_tree.Goals as goal

pub returns-clause-prints : goal.returns-clause-prints
returns-clause-prints c = read_prints

pub returns-clause-printable : goal.returns-clause-printable
returns-clause-printable c = read_is_printable

pub returns-clause-none : goal.returns-clause-none
returns-clause-none c = no_tree
