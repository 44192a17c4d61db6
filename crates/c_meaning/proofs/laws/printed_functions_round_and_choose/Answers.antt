use Rattle.c_meaning.proofs.BoundWorths.{floord_is, ceild_is, greater_is, less_is}
use Rattle.c_meaning.proofs.laws.printed_functions_round_and_choose.Goals as goal

pub returns-clause-floor : goal.returns-clause-floor
returns-clause-floor c = floord_is

pub returns-clause-ceiling : goal.returns-clause-ceiling
returns-clause-ceiling c = ceild_is

pub returns-clause-greater : goal.returns-clause-greater
returns-clause-greater c = greater_is

pub returns-clause-less : goal.returns-clause-less
returns-clause-less c = less_is
