use Rattle.report_text.specs.declared.status.Status.TheVariants.{Done}
use Rattle.command_callers.proofs.lines_of_sources_within_one_move.Goals as goal

pub returns : goal.returns
returns c = λ words left out lines has is.
    c.only_plans_have_lines.ensures.deps words 1 left Done out out lines has is
