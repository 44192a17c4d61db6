-- The answer to a certificate is that of `check`.
use Rattle.polypar.proofs.CheckLemmas.{check_answers}
use Rattle.polypar.proofs.input.run_command.Goals as goal

pub returns-in-Check : goal.returns-in-Check
returns-in-Check g c =
    check_answers c.args.command c.check.result _ _ _ _ (g.E.Sink.shows c.args.err.now) c.in-Check.is
    (c.check.ensures (g.E.Sink.shows c.args.err.now))
