use Rattle.scop_arithmetic.proofs.Conditions.{tests_value}
use Rattle.scop_arithmetic.proofs.laws.tests_hold_where_conditions_do.Goals as goal

pub returns : goal.returns
returns c n f p long h = tests_value n f p long h
