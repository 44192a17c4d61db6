use Rattle.scop_syntax.proofs.Common.{rules, subst, FitsSigned, w64, to_z-of_z, codes, signed_decimal}
use Rattle.io_ports.specs.Writes.{Puts}
use Rattle.report_text.proofs.Lines.{extent_is}
use Rattle.report_text.proofs.data_line.put_extent.Goals as goal

pub returns : goal.returns
returns g c =
    let fits : FitsSigned w64 c.args.value = search rules in
    subst (λ text. Puts (g.K.Sink.shows c.args.sink.now) c.args.pieces.now (g.K.Sink.shows c.put_parts.new.sink)
    c.put_parts.new.pieces text c.put_parts.result)
    (extent_is (codes "data: Extent ") c.args.name.now (codes " ") (codes " value ") (signed_decimal c.args.value)
    (codes "\n") c.args.dimension) (simp to_z-of_z at c.put_parts.ensures)
