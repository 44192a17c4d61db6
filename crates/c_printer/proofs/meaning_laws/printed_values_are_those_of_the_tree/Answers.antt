use Rattle.c_printer.proofs.PrintedValues.{typed_worth, typed_stores, typed_run}
use Rattle.c_printer.proofs.meaning_laws.printed_values_are_those_of_the_tree.Goals as goal

pub returns-clause-value : goal.returns-clause-value
returns-clause-value c = typed_worth

pub returns-clause-stored : goal.returns-clause-stored
returns-clause-stored c = typed_stores

pub returns-clause-run : goal.returns-clause-run
returns-clause-run c = typed_run
