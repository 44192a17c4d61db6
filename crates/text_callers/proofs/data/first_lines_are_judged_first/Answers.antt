use Rattle.scop_syntax.proofs.Common.{[], ◌∷◌, ◌∙◌, ap, sym}
use Rattle.std.specs.List.{join_with_byte}
use Rattle.text_callers.proofs.data.first_lines_are_judged_first.Goals as goal

pub returns-clause-joined : goal.returns-clause-joined
returns-clause-joined c = λ text line one.
    sym (c.lines_are_judged_in_order.ensures.joined text) ∙ ap (join_with_byte 10) one

pub returns-clause-order : goal.returns-clause-order
returns-clause-order c = λ program sheet line lines.
    c.lines_are_judged_in_order.ensures.order program 1 sheet (line ∷ []) lines

pub returns-clause-stands : goal.returns-clause-stands
returns-clause-stands c = λ program sheet line lines refusal told.
    c.lines_are_judged_in_order.ensures.stands program 1 sheet (line ∷ []) lines refusal told
