use Rattle.scop_syntax.proofs.Common.{codes}
use Rattle.io_ports.proofs.PutTexts.{cut_before}
use Rattle.data_text.proofs.ArrayTextLemmas.{puts_then}
use Rattle.data_text.proofs.array_text.put_name.Goals as goal

pub returns-in-Ok : goal.returns-in-Ok
returns-in-Ok g c =
    puts_then (g.K.Sink.shows c.args.sink.now) (g.K.Sink.shows c.put.new.sink) (g.K.Sink.shows c.put-in-Ok.new.sink)
    c.args.pieces.now c.put.new.self c.put-in-Ok.new.self c.args.name.now (codes " =")
    c.put-in-Ok.result c.in-Ok.ensures c.put-in-Ok.ensures

pub returns-in-Err : goal.returns-in-Err
returns-in-Err g c =
    cut_before (g.K.Sink.shows c.args.sink.now) (g.K.Sink.shows c.put.new.sink) c.args.pieces.now
    c.args.name.now (codes " =") c.in-Err.ensures
