use Rattle.scop_syntax.proofs.Common.{[], ◌∷◌, ◌^◌, pos, Bool, Result, Ok, Err, ap, refl}
use Rattle.affine_forms.specs.Runs.{multiply_add_run, value_run}
use Rattle.wide_math.specs.Checked.{checked, wide}
use Rattle.wide_math.specs.declared.Wide.{Wide}
use Rattle.wide_math.specs.declared.Op.TheVariants.{Mul}
use Rattle.contract_callers.specs.SmallRows.{wide_behind}
use Rattle.contract_callers.proofs.systems.a_row_with_a_wide_value.Goals as goal

-- the error of a result, or another where it has none
abbrev error_or : Wide → Result Bool Wide → Wide
error_or w (Ok b) = w
error_or w (Err v) = v

pub returns-clause-stops : goal.returns-clause-stops
unfolding multiply_add_run value_run checked
returns-clause-stops c =
    (c.tests_stop_at_the_first_wide_value.ensures wide_behind (pos (2 ^ 126) ∷ [])
    (wide Mul (pos 2) (pos (2 ^ 126)))).0 refl

pub returns-clause-only : goal.returns-clause-only
unfolding multiply_add_run value_run checked
returns-clause-only c = λ w stops.
    ap (error_or w) ((c.tests_stop_at_the_first_wide_value.ensures wide_behind (pos (2 ^ 126) ∷ []) w).1 stops)
