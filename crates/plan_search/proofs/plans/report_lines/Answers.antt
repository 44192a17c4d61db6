-- Where a report is asked for, the text is that of the schedule's blocks.
use Rattle.scop_syntax.proofs.Common.{◌≡◌, subst, sym, IfOk-weaker}
use Rattle.plan_search.specs.Planned.{report_of}
use Rattle.plan_search.proofs.SearchLemmas.{text_of_blocks}
use Rattle.plan_search.proofs.plans.report_lines.Goals as goal

pub returns-then-report : goal.returns-then-report
returns-then-report c =
    IfOk-weaker c.schedule_text.result _ _
    (λ text told s. subst (λ asked. text.items ≡ report_of asked s.blocks) (sym c.if-report.true)
    (text_of_blocks c.dependences_have_one_schedule.ensures c.args.schedule.now s text.items told))
    c.schedule_text.ensures.text
