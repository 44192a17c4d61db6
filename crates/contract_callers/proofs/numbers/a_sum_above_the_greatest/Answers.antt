use Rattle.scop_syntax.proofs.Common.{refl, pos, ◌^◌, ◌-◌}
use Rattle.wide_math.specs.Checked.{wide}
use Rattle.wide_math.specs.declared.Op.TheVariants.{Add}
use Rattle.contract_callers.proofs.numbers.a_sum_above_the_greatest.Goals as goal

pub returns-clause-error : goal.returns-clause-error
returns-clause-error c =
    (c.checked_operations_are_exact.ensures.error Add (pos (2 ^ 127 - 1)) (pos 1) (pos (2 ^ 127))
    (wide Add (pos (2 ^ 127 - 1)) (pos 1))).1 (refl, refl)

pub returns-clause-only : goal.returns-clause-only
returns-clause-only c = λ e is.
    ((c.checked_operations_are_exact.ensures.error Add (pos (2 ^ 127 - 1)) (pos 1) (pos (2 ^ 127)) e).0 is).0

pub returns-clause-none : goal.returns-clause-none
returns-clause-none c = λ y is.
    let sum = c.checked_operations_are_exact.ensures.result Add (pos (2 ^ 127 - 1)) (pos 1) (pos (2 ^ 127)) y in
    let fits = (sum.0 is).1 in absurd cc
