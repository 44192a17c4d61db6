use Rattle.scop_syntax.proofs.Common.{◌≡◌, ap, subst, length, Some}
use Rattle.std.specs.Prelude.{option_map}
use Rattle.schedule_lines.specs.Lines.{scalar_text}
use Rattle.schedule_lines.specs.Reading.{scalar_in}
use Rattle.schedule_lines.specs.Saturated.{saturated_scalar}
use Rattle.plan_check.specs.Printed.{said_text}
use Rattle.plan_check.specs.Text.{goal, or_else, proof_in, row, scalar, step, step_in}
use Rattle.plan_check.proofs.PrintedTexts.{first_line, goal_back, step_back}
use Rattle.plan_check.proofs.ReadTexts.{said_printed}
use Rattle.plan_check.proofs.text_laws.lines_are_read_where_they_are_printed.Goals as goals

pub returns-clause-printed : goals.returns-clause-printed
returns-clause-printed c loops (row r) is =
    ap (λ o. or_else (option_map (λ r. row r) o) (or_else (option_map (λ s. scalar s)
    (scalar_in (length loops) (said_text (row r)))) (proof_in (said_text (row r)))))
    (c.rows_are_read_where_they_are_printed.ensures.printed loops r is)
returns-clause-printed c loops (scalar s) is =
    ap (λ o. or_else (option_map (λ s. scalar s) o) (proof_in (scalar_text s)))
    (subst (λ n. scalar_in n (scalar_text s) ≡ Some (saturated_scalar s)) is
    (c.scalars_are_read_where_they_are_printed.ensures.printed s))
returns-clause-printed c loops (goal g) is =
    ap (λ o. or_else (option_map (λ g. goal g) o) (option_map (λ s. step s) (step_in (said_text (goal g))))) (goal_back g)
returns-clause-printed c loops (step s) is = ap (option_map (λ s. step s)) (step_back s is.0 is.1)

pub returns-clause-first : goals.returns-clause-first
returns-clause-first c s rest = first_line s rest

pub returns-clause-read : goals.returns-clause-read
returns-clause-read c loops line t h =
    said_printed loops line t (c.rows_are_read_where_they_are_printed.ensures.read loops line)
    (c.scalars_are_read_where_they_are_printed.ensures.read (length loops) line) h
