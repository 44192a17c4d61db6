use Rattle.scop_syntax.proofs.Common.{◌∙◌, ◌++◌, ap, subst, codes}
use Rattle.io_ports.specs.Writes.{Puts}
use Rattle.report_text.specs.StatusText.{place_text}
use Rattle.report_text.proofs.Lines.{refusal_is}
use Rattle.report_text.proofs.line.put_refusal.Goals as goal

pub returns : goal.returns
returns g c =
    let line = c.args.refusal.line in
    let column = c.args.refusal.column in
    subst (λ text. Puts (g.K.Sink.shows c.args.sink.now) c.args.pieces.now (g.K.Sink.shows c.put_parts.new.sink)
    c.put_parts.new.pieces text c.put_parts.result)
    (refusal_is c.kind_text.result.now (codes " ") (codes ":") (codes "\n") line column
    ∙ ap (λ kind. kind ++ place_text line column) c.kind_text.ensures) c.put_parts.ensures
