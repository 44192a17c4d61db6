use Rattle.c_printer.proofs.Divisions.{is_floor, is_ceiling, is_greater, is_less}
use Rattle.c_printer.proofs.meaning_laws.the_functions_of_a_text_round_and_choose.Goals as goal

pub returns-clause-floor : goal.returns-clause-floor
returns-clause-floor c = is_floor

pub returns-clause-ceiling : goal.returns-clause-ceiling
returns-clause-ceiling c = is_ceiling

pub returns-clause-greater : goal.returns-clause-greater
returns-clause-greater c = is_greater

pub returns-clause-less : goal.returns-clause-less
returns-clause-less c = is_less
