use Rattle.scop_syntax.proofs.Common.{rules, subst, FitsSigned, w64, to_z-of_z, codes, signed_decimal}
use Rattle.io_ports.specs.Writes.{Puts}
use Rattle.report_text.proofs.Lines.{outside_is}
use Rattle.report_text.proofs.outside_line.put_outside.Goals as goal

pub returns : goal.returns
returns g c =
    let fits : FitsSigned w64 c.args.f.value = search rules in
    subst (λ text. Puts (g.K.Sink.shows c.args.sink.now) c.args.pieces.now (g.K.Sink.shows c.put_parts.new.sink)
    c.put_parts.new.pieces text c.put_parts.result)
    (outside_is (codes "outside: S") (codes " access ") (codes " dimension ") (codes " value ")
    (signed_decimal c.args.f.value) (codes " extent ") (codes "\n") c.args.f.stmt c.args.f.access c.args.f.dim
    c.args.f.extent) (simp to_z-of_z at c.put_parts.ensures)
