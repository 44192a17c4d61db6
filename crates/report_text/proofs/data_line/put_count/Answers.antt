use Rattle.scop_syntax.proofs.Common.{subst, codes}
use Rattle.io_ports.specs.Writes.{Puts}
use Rattle.report_text.proofs.Lines.{count_is}
use Rattle.report_text.proofs.data_line.put_count.Goals as goal

pub returns : goal.returns
returns g c =
    subst (λ text. Puts (g.K.Sink.shows c.args.sink.now) c.args.pieces.now (g.K.Sink.shows c.put_parts.new.sink)
    c.put_parts.new.pieces text c.put_parts.result)
    (count_is (codes "data: Count line ") (codes " expected ") (codes " found ") (codes "\n")
    c.args.line c.args.expected c.args.found) c.put_parts.ensures
