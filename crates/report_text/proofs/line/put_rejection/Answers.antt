use Rattle.scop_syntax.proofs.Common.{ap, subst, codes}
use Rattle.io_ports.specs.Writes.{Puts}
use Rattle.report_text.specs.StatusText.{numbered}
use Rattle.report_text.proofs.line.put_rejection.Goals as goal

pub returns : goal.returns
returns g c =
    subst (λ text. Puts (g.K.Sink.shows c.args.sink.now) c.args.pieces.now (g.K.Sink.shows c.put_numbered.new.sink)
    c.put_numbered.new.pieces text c.put_numbered.result)
    (ap (λ front. numbered front c.args.line (codes "\n")) c.fault_text.ensures) c.put_numbered.ensures
