use Rattle.scop_syntax.proofs.Common.{arith, refl, codes}
use Rattle.scop_expressions.specs.Assign.TheVariants.{ShiftLeft}
use Rattle.scop_lexer.specs.Signs.{assigns}
use Rattle.contract_callers.proofs.tokens.the_longest_of_three_signs.Goals as goal

pub returns-clause-longest : goal.returns-clause-longest
returns-clause-longest c = let told = c.longest_sign_is_told.ensures (codes "<<= 1") in (told.0, told.1)

pub returns-clause-none : goal.returns-clause-none
returns-clause-none c = (c.longest_sign_is_told.ensures (codes "@")).1

pub returns-clause-shorter : goal.returns-clause-shorter
returns-clause-shorter c = λ longest.
    let longer = longest.2 (codes "<<=") (assigns ShiftLeft) (refl, refl, refl) (codes " 1", refl) in
    omega (arith, longer)
