-- The lines are the kernel's arrays', and what was pending went out behind them.
use Rattle.scop_syntax.proofs.Common.{subst, refl, []}
use Rattle.io_ports.specs.Writes.{Writes, CutsOff}
use Rattle.io_ports.proofs.PutTexts.{written}
use Rattle.data_text.proofs.ArrayTextLemmas.{kernel_rows}
use Rattle.data_text.proofs.array_text.write_arrays.Goals as goal

pub returns-in-Err : goal.returns-in-Err
returns-in-Err g c = subst (λ text. CutsOff (g.K.Sink.shows c.args.sink.now) (g.K.Sink.shows c.put_rows.new.sink) text)
    (kernel_rows c.args.kernel.now c.deref.result.now c.args.case.now.arrays c.new-pieces.result
    c.new-pieces.ensures c.deref.ensures.value) c.in-Err.ensures

pub returns-in-Ok : goal.returns-in-Ok
returns-in-Ok g c = subst (λ text. Writes (g.K.Sink.shows c.args.sink.now) (g.K.Sink.shows c.finish.new.sink) text
    c.finish.result)
    (kernel_rows c.args.kernel.now c.deref.result.now c.args.case.now.arrays [] refl c.deref.ensures.value)
    (written _ (g.K.Sink.shows c.put_rows.new.sink) _ c.new-pieces.result c.put_rows.new.pieces _ c.finish.result
    c.new-pieces.ensures c.in-Ok.ensures c.finish.ensures.sent)
