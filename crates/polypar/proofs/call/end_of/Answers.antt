-- `gen` reads nothing, and answers whatever the source tells.
use Rattle.polypar.proofs.EndLemmas.{summary_ends}
use Rattle.polypar.proofs.call.end_of.Goals as goal

pub returns-in-Gen : goal.returns-in-Gen
returns-in-Gen g c =
    summary_ends c.args.command c.in-Gen.generated c.in-Gen.options c.print_summary.result c.of.result _ _ _ _ _
    c.of.ensures c.in-Gen.is c.print_summary.ensures
