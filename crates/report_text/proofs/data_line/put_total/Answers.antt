use Rattle.scop_syntax.proofs.Common.{rules, ◌≡◌, ◌∙◌, ap, subst, codes, decimal}
use Rattle.io_ports.specs.Writes.{Puts}
use Rattle.report_text.specs.StatusText.{named}
use Rattle.report_text.proofs.Lines.{total_is}
use Rattle.report_text.proofs.data_line.put_total.Goals as goal

pub returns : goal.returns
returns g c =
    let written : c.as_bytes.result.now ≡ decimal c.args.total = search rules in
    subst (λ text. Puts (g.K.Sink.shows c.args.sink.now) c.args.pieces.now (g.K.Sink.shows c.put_named.new.sink)
    c.put_named.new.pieces text c.put_named.result)
    (ap (λ t. named (codes "data: Cells ") t (codes "\n")) written
    ∙ total_is (codes "data: Cells ") (codes "\n") c.args.total) c.put_named.ensures
