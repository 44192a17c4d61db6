use Rattle.c_printer.proofs.Divisions.{multiples_told, floor_of_one, ceiling_of_one}
use Rattle.c_printer.proofs.meaning_laws.printed_divisions_are_those_of_the_tree.Goals as goal

pub returns-clause-multiple : goal.returns-clause-multiple
returns-clause-multiple c = multiples_told

pub returns-clause-floor : goal.returns-clause-floor
returns-clause-floor c = floor_of_one

pub returns-clause-ceiling : goal.returns-clause-ceiling
returns-clause-ceiling c = ceiling_of_one
