use Rattle.scop_syntax.proofs.Common.{map, subst, string_bytes, Appends}
use Rattle.command_callers.proofs.CallLemmas.{data_line, faulted}
use Rattle.polypar.specs.Answered.{HasLines}
use Rattle.command_callers.proofs.calls.ended_call.Goals as goal

pub returns-clause-stranger : goal.returns-clause-stranger
returns-clause-stranger g c = λ fault.
    c.plain_command.ensures.stranger (λ taken. fault taken.0)

pub returns-clause-read_fault : goal.returns-clause-read_fault
returns-clause-read_fault g c = λ fault.
    c.plain_command.ensures.read_fault fault

pub returns-clause-write_fault : goal.returns-clause-write_fault
returns-clause-write_fault g c = λ fault.
    c.plain_command.ensures.write_fault fault

pub returns-clause-front : goal.returns-clause-front
returns-clause-front g c = λ fault.
    c.plain_command.ensures.written fault

pub returns-clause-line : goal.returns-clause-line
returns-clause-line g c = λ refusal is.
    data_line _ c.plain_command.result (g.S.Source.shows c.args.source.now)
    (g.S.Source.shows c.plain_command.new.source)
    (g.O.Sink.shows c.args.out.now) (g.O.Sink.shows c.plain_command.new.out) (g.E.Sink.shows c.args.err.now)
    (g.E.Sink.shows c.plain_command.new.err) refusal is c.plain_command.ensures

pub returns-clause-lines : goal.returns-clause-lines
returns-clause-lines g c = λ done.
    let line = c.plain_command.ensures.error_line in
    let old = g.O.Sink.shows c.args.out.now in
    let new = g.O.Sink.shows c.plain_command.new.out in
    let err_old = (g.E.Sink.shows c.args.err.now).taken in
    let words = map string_bytes c.args.words.now in
    let left = (g.S.Source.shows c.args.source.now).left in
    let has = subst (λ s. HasLines words left s old new line.2) done line.4 in (
      has.0,
      has.1,
      line.3,
      has.2,
      has.3,
      has.4,
      subst (λ lines. Appends err_old line.3.taken lines) has.5 line.5.gained,
    )

pub returns-clause-cut : goal.returns-clause-cut
returns-clause-cut g c = λ fault.
    let line = c.plain_command.ensures.error_line in
    let old = g.O.Sink.shows c.args.out.now in
    let new = g.O.Sink.shows c.plain_command.new.out in
    let err_old = g.E.Sink.shows c.args.err.now in
    let err_new = g.E.Sink.shows c.plain_command.new.err in
    let words = map string_bytes c.args.words.now in
    let left = (g.S.Source.shows c.args.source.now).left in
    let has = subst (λ s. HasLines words left s old new line.2) fault line.4 in (
      has.0,
      has.1,
      line.2,
      line.0,
      line.3,
      has.2,
      has.3,
      has.4,
      line.5.gained,
      faulted line.0 c.plain_command.result old new err_old line.3 err_new fault line.6,
    )
