use Rattle.scop_lexer.proofs.ConstantLemmas.{number_too_large}
use Rattle.scop_lexer.proofs.constants.number.Goals as goal

pub returns-in-None-clause-none : goal.returns-in-None-clause-none
returns-in-None-clause-none c =
    let at = c.loop-digit in
    number_too_large c.args.radix at.value at.digit-index c.args.digits.now c.requires c.loop-digit-test.true
    at.invariant c.in-None.ensures.none
