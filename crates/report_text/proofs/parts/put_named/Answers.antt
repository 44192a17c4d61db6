use Rattle.scop_syntax.proofs.Common.{subst}
use Rattle.io_ports.specs.Writes.{Puts}
use Rattle.report_text.proofs.Lines.{named_is}
use Rattle.report_text.proofs.parts.put_named.Goals as goal

pub returns : goal.returns
returns g c =
    subst (λ text. Puts (g.K.Sink.shows c.args.sink.now) c.args.pieces.now (g.K.Sink.shows c.put_parts.new.sink)
    c.put_parts.new.pieces text c.put_parts.result)
    (named_is c.args.front.now c.args.name.now c.args.end.now) c.put_parts.ensures
