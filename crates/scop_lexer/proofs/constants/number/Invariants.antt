-- The number so far and the digits to come write the number of all.
use Rattle.std.proofs.Common.{◌≡◌, drop}
use Rattle.scop_lexer.specs.Constants.{number_behind}
use Rattle.scop_lexer.proofs.constants.number.Given as goal

abbrev pub invariant-loop-digit : goal.invariant-loop-digit
invariant-loop-digit l = number_behind l.radix l.value
    (drop l.digit-index l.digits) ≡ number_behind l.radix 0 l.digits
