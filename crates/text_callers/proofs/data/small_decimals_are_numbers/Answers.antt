use Rattle.scop_syntax.proofs.Common.{◌++◌, ◌∙◌, arith, codes, decimal}
use Rattle.text_callers.proofs.data.small_decimals_are_numbers.Goals as goal

pub returns-clause-decimal : goal.returns-clause-decimal
returns-clause-decimal c = λ n less. c.decimals_are_numbers.ensures.decimal n (omega (arith, less))

pub returns-clause-zeros : goal.returns-clause-zeros
returns-clause-zeros c = λ n less.
    c.decimals_are_numbers.ensures.zeros (codes "0" ++ decimal n)
    ∙ (c.decimals_are_numbers.ensures.zeros (decimal n) ∙ c.decimals_are_numbers.ensures.decimal n (omega (arith, less)))
