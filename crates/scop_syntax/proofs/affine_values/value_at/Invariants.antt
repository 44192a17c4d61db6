use Rattle.whole_numbers.proofs.Common.{◌≡◌, drop, ◌+ℤ◌, w64, dot, value_of}
use Rattle.std.specs.Int.{int_wrap}
use Rattle.scop_syntax.proofs.affine_values.value_at.Given as goal

abbrev pub invariant-loop-at : goal.invariant-loop-at
invariant-loop-at l = int_wrap w64 (l.value +ℤ dot (drop l.at l.form.coefficients) (drop l.at l.point))
    ≡ int_wrap w64 (value_of l.form l.point)
