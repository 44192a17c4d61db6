-- One component more, and at the end all of them.
use Rattle.scop_syntax.proofs.Common.{◌∙◌, ◌+◌, ◌++◌, ap, drop, drop_of_length-le}
use Rattle.report_text.specs.ScheduleText.{components_from}
use Rattle.report_text.proofs.AppendedTexts.{next_appended, last_appended}
use Rattle.report_text.proofs.ScheduleLemmas.{components_next}
use Rattle.report_text.proofs.item_lines.push_components.Goals as goal

pub loop-at-preserved : goal.loop-at-preserved
loop-at-preserved c =
    let numbers = c.args.numbers.now in
    let at = c.loop-at.at in
    let out = c.loop-at.out.items in
    next_appended out c.push_component.new.out.items _ (components_from (at + 1) (drop (at + 1) numbers)) _
    c.in-Ok.ensures
    (ap (λ t. out ++ t) (components_next numbers at _ c.loop-at-test.true) ∙ c.loop-at.invariant)

pub returns : goal.returns
returns c =
    let numbers = c.args.numbers.now in
    let at = c.loop-at.at in
    last_appended c.loop-at.out.items (components_from at (drop at numbers)) _
    (ap (components_from at) (drop_of_length-le numbers c.loop-at-test.false)) c.loop-at.invariant
