use Rattle.scop_syntax.proofs.Common.{◌∙◌, ◌++◌, ◌+◌, ap, drop, get_or}
use Rattle.io_ports.proofs.PutTexts.{next_put, next_piece_cut}
use Rattle.report_text.specs.declared.parts.Part.TheVariants as part
use Rattle.report_text.specs.steps.Parts.{part_text, parts_text}
use Rattle.report_text.proofs.Lines.{parts_next}
use Rattle.report_text.proofs.parts.put_parts.Goals as goal

pub returns-in-Err : goal.returns-in-Err
returns-in-Err g c =
    let parts = c.args.parts.now in
    let at = c.loop-part.part-index in
    let before = c.loop-part.invariant in
    let whole = ap (λ t. before.0 ++ t) (parts_next parts at (part.Number 0) c.loop-part-test.true) ∙ before.1 in
    next_piece_cut _ (g.K.Sink.shows c.loop-part.sink) _ _ c.loop-part.pieces before.0
    (part_text (get_or parts at (part.Number 0))) (parts_text (drop (at + 1) parts)) _ whole before.2 c.in-Err.ensures

pub loop-part-preserved : goal.loop-part-preserved
loop-part-preserved g c =
    let parts = c.args.parts.now in
    let at = c.loop-part.part-index in
    let before = c.loop-part.invariant in
    let whole = ap (λ t. before.0 ++ t) (parts_next parts at (part.Number 0) c.loop-part-test.true) ∙ before.1 in
    next_put _ (g.K.Sink.shows c.loop-part.sink) _ _ c.loop-part.pieces _ before.0
    (part_text (get_or parts at (part.Number 0))) (parts_text (drop (at + 1) parts)) _ whole before.2 c.in-Ok.ensures
