use Rattle.scop_syntax.proofs.Common.{refl}
use Rattle.data_text.proofs.NumeralLemmas.{decimal_is_number}
use Rattle.data_text.proofs.laws.decimals_are_numbers.Goals as goal

pub returns-clause-decimal : goal.returns-clause-decimal
returns-clause-decimal c = decimal_is_number

pub returns-clause-zeros : goal.returns-clause-zeros
returns-clause-zeros c = λ word. refl
