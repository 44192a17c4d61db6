-- One statement more, and at the end all of them.
use Rattle.scop_syntax.proofs.Common.{◌∙◌, ◌+◌, ◌++◌, ap, drop, get_or, drop_of_length-le, map}
use Rattle.report_text.specs.ScheduleText.{statement_text, statements_from}
use Rattle.report_text.specs.steps.ScheduleLines.{part_view}
use Rattle.report_text.proofs.AppendedTexts.{next_appended, last_appended}
use Rattle.report_text.proofs.ScheduleLemmas.{statements_next}
use Rattle.report_text.proofs.item_lines.push_statements.Goals as goal

pub loop-at-preserved : goal.loop-at-preserved
loop-at-preserved c =
    let parts = c.args.parts.now in
    let at = c.loop-at.at in
    let out = c.loop-at.out.items in
    let part = c.index-parts-at.result in
    next_appended out c.push_statement.new.out.items (statement_text at (part_view (get_or parts at part)))
    (statements_from (at + 1) (map part_view (drop (at + 1) parts))) _
    (c.in-Ok.ensures ∙ ap (λ p. out ++ statement_text at (part_view p)) c.index-parts-at.is)
    (ap (λ t. out ++ t) (statements_next parts at part c.loop-at-test.true) ∙ c.loop-at.invariant)

pub returns : goal.returns
returns c =
    let parts = c.args.parts.now in
    let at = c.loop-at.at in
    last_appended c.loop-at.out.items (statements_from at (map part_view (drop at parts))) _
    (ap (λ xs. statements_from at (map part_view xs))
    (drop_of_length-le parts c.loop-at-test.false)) c.loop-at.invariant
