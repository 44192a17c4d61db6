use Rattle.scop_arithmetic.proofs.Wholes.{form_value, constant_small}
use Rattle.scop_arithmetic.proofs.laws.forms_are_whole_numbers.Goals as goal

pub returns-clause-value : goal.returns-clause-value
returns-clause-value c n f p long h = form_value n f p long h

pub returns-clause-constants : goal.returns-clause-constants
returns-clause-constants c n f p long h e =
    constant_small c.faultless_formulas_are_within_limits.ensures.affine n f p long h e
