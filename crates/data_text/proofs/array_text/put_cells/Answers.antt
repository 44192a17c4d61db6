-- One more cell was put, or a front of it reached the sink.
use Rattle.scop_syntax.proofs.Common.{◌∙◌, ◌++◌, ap, sym, drop, ◌+◌, get_or}
use Rattle.io_ports.proofs.PutTexts.{next_put, next_piece_cut}
use Rattle.data_text.specs.ArrayText.{cell_text, cells_text}
use Rattle.data_text.proofs.ArrayTextLemmas.{cells_next}
use Rattle.data_text.proofs.array_text.put_cells.Goals as goal

pub returns-in-Err : goal.returns-in-Err
returns-in-Err g c =
    let cells = c.args.cells.now in
    let at = c.loop-cell.cell-index in
    let before = c.loop-cell.invariant in
    let whole = ap (λ t. before.0 ++ t) (sym (cells_next cells at c.loop-cell-test.true)) ∙ before.1 in
    next_piece_cut _ (g.K.Sink.shows c.loop-cell.sink) _ _ c.loop-cell.pieces before.0
    (cell_text (get_or cells at 0)) (cells_text (drop (at + 1) cells)) _
    whole before.2 c.in-Err.ensures

pub loop-cell-preserved : goal.loop-cell-preserved
loop-cell-preserved g c =
    let cells = c.args.cells.now in
    let at = c.loop-cell.cell-index in
    let before = c.loop-cell.invariant in
    let whole = ap (λ t. before.0 ++ t) (sym (cells_next cells at c.loop-cell-test.true)) ∙ before.1 in
    let next = next_put _ (g.K.Sink.shows c.loop-cell.sink) _ _ c.loop-cell.pieces _ before.0
    (cell_text (get_or cells at 0)) (cells_text (drop (at + 1) cells)) _
    whole before.2 c.in-Ok.ensures in
    next
