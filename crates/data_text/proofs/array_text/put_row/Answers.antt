use Rattle.scop_syntax.proofs.Common.{codes}
use Rattle.io_ports.proofs.PutTexts.{cut_before}
use Rattle.data_text.specs.ArrayText.{row_text}
use Rattle.data_text.proofs.ArrayTextLemmas.{puts_then}
use Rattle.data_text.proofs.array_text.put_row.Goals as goal

pub returns-in-Ok : goal.returns-in-Ok
returns-in-Ok g c =
    puts_then (g.K.Sink.shows c.args.sink.now) (g.K.Sink.shows c.put_array.new.sink) (g.K.Sink.shows c.put.new.sink)
    c.args.pieces.now c.put_array.new.pieces c.put.new.self (row_text c.args.name.now c.args.cells.now) (codes "\n")
    c.put.result c.in-Ok.ensures c.put.ensures

pub returns-in-Err : goal.returns-in-Err
returns-in-Err g c =
    cut_before (g.K.Sink.shows c.args.sink.now) (g.K.Sink.shows c.put_array.new.sink) c.args.pieces.now
    (row_text c.args.name.now c.args.cells.now) (codes "\n") c.in-Err.ensures
