-- What was made of the generated kernel is its summary.
use Rattle.polypar.specs.Runs.{IsSummaryText}
use Rattle.polypar.proofs.PrintLemmas.{made_answers}
use Rattle.polypar.proofs.generate.print_summary.Goals as goal

pub returns : goal.returns
returns g c =
    made_answers (IsSummaryText c.args.kernel c.args.options) c.summary_told.result _ _ _ _ _ c.summary_told.ensures
    c.print_made.ensures
