use Rattle.c_printer.proofs.Iterators.{point_of_turn, visit_of_givens}
use Rattle.c_printer.proofs.meaning_laws.printed_iterators_are_the_source_s.Goals as goal

pub returns-clause-iterator : goal.returns-clause-iterator
returns-clause-iterator c = point_of_turn

pub returns-clause-point : goal.returns-clause-point
returns-clause-point c = visit_of_givens
