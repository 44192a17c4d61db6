-- An input that was read is answered, and one that was not read is answered too.
use Rattle.scop_syntax.proofs.Common.{◌≡◌, Err, None, ap, subst, sym}
use Rattle.io_ports.specs.Bytes.{IsAllOf}
use Rattle.plan_search.specs.Status.TheVariants.{NoMemory}
use Rattle.polypar.specs.Deserves.{too_long}
use Rattle.polypar.proofs.AnswerLemmas.{long_input, some_input}
use Rattle.polypar.proofs.EndLemmas.{broken_ends, input_ends, unread_ends}
use Rattle.polypar.proofs.RunLemmas.{long_answers, untouched}
use Rattle.polypar.proofs.input.run.Goals as goal

pub returns-in-Ok : goal.returns-in-Ok
returns-in-Ok g c =
    let read = c.read_to_end.ensures in
    let left = (g.S.Source.shows c.args.source.now).left in
    input_ends c.args.command _ _ _ _ _ _ _ _ _ c.requires.reads
    (subst (λ i. IsAllOf left i) (sym c.deref.ensures.value) c.in-Ok.ensures.bytes) c.in-Ok.ensures.end
    (record { later = read.later; steady = read.steady }) c.run_input.ensures.answer c.run_input.ensures.names

pub returns-in-Err-Failed : goal.returns-in-Err-Failed
returns-in-Err-Failed g c =
    let read = c.read_to_end.ensures in
    broken_ends c.args.command c.of.result _ _ _ _ c.of.ensures
    (record { later = read.later; steady = read.steady })
    (c.in-Err-Failed.ensures.failed (ap Err c.in-Err-Failed.field-0-is))

pub returns-in-Err-TooLong : goal.returns-in-Err-TooLong
returns-in-Err-TooLong g c =
    let read = c.read_to_end.ensures in
    let source = g.S.Source.shows c.args.source.now in
    let out = g.O.Sink.shows c.args.out.now in
    let err = g.E.Sink.shows c.args.err.now in
    let ending = c.of-in-Err-TooLong.result in
    let input = long_input source.left 134217728 (c.in-Err-TooLong.ensures.too_long (ap Err c.in-Err-TooLong.field-0-is)) in
    unread_ends c.args.command too_long ending _ _ _ _
    (subst (λ s. ending ≡ record { status = s; kernel = None }) c.too_long.ensures c.of-in-Err-TooLong.ensures)
    (λ e. cc) (record { later = read.later; steady = read.steady }) tt
    (input.0, input.1, long_answers c.args.command input.0 out err input.2 c.requires.reads)

pub returns-in-Err-NoMemory : goal.returns-in-Err-NoMemory
returns-in-Err-NoMemory g c =
    let read = c.read_to_end.ensures in
    let out = g.O.Sink.shows c.args.out.now in
    let err = g.E.Sink.shows c.args.err.now in
    let input = some_input (g.S.Source.shows c.args.source.now).left in
    unread_ends c.args.command NoMemory c.of-in-Err-NoMemory.result _ _ _ _ c.of-in-Err-NoMemory.ensures (λ e. cc)
    (record { later = read.later; steady = read.steady }) tt (input.0, input.1, untouched out err)
