use Rattle.scop_syntax.proofs.Common.{refl, pos, ◌^◌, ◌-◌}
use Rattle.wide_math.specs.declared.Op.TheVariants.{Add}
use Rattle.contract_callers.proofs.numbers.the_greatest_sum.Goals as goal

pub returns-clause-result : goal.returns-clause-result
returns-clause-result c =
    (c.checked_operations_are_exact.ensures.result Add (pos (2 ^ 127 - 2)) (pos 1) (pos (2 ^ 127 - 1))
    (pos (2 ^ 127 - 1))).1 (refl, refl)

pub returns-clause-only : goal.returns-clause-only
returns-clause-only c = λ y is.
    ((c.checked_operations_are_exact.ensures.result Add (pos (2 ^ 127 - 2)) (pos 1) (pos (2 ^ 127 - 1)) y).0 is).0

pub returns-clause-none : goal.returns-clause-none
returns-clause-none c = λ e is.
    let sum = c.checked_operations_are_exact.ensures.error Add (pos (2 ^ 127 - 2)) (pos 1) (pos (2 ^ 127 - 1)) e in
    let wide = (sum.0 is).1 in absurd cc
