use Rattle.scop_syntax.proofs.Common.{codes, ◌++◌}
use Rattle.io_ports.proofs.PutTexts.{cut_before}
use Rattle.data_text.specs.ArrayText.{cells_text}
use Rattle.data_text.proofs.ArrayTextLemmas.{puts_then}
use Rattle.data_text.proofs.array_text.put_array.Goals as goal

pub returns-in-Ok : goal.returns-in-Ok
returns-in-Ok g c =
    puts_then (g.K.Sink.shows c.args.sink.now) (g.K.Sink.shows c.put_name.new.sink)
    (g.K.Sink.shows c.put_cells.new.sink) c.args.pieces.now c.put_name.new.pieces c.put_cells.new.pieces
    (c.args.name.now ++ codes " =") (cells_text c.args.cells.now) c.put_cells.result c.in-Ok.ensures c.put_cells.ensures

pub returns-in-Err : goal.returns-in-Err
returns-in-Err g c =
    cut_before (g.K.Sink.shows c.args.sink.now) (g.K.Sink.shows c.put_name.new.sink) c.args.pieces.now
    (c.args.name.now ++ codes " =") (cells_text c.args.cells.now) c.in-Err.ensures
