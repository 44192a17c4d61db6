-- The kernel was read from the input's text, and what the command answers of it is the input's answer.
use Rattle.scop_syntax.proofs.Common.{subst, sym, rules}
use Rattle.polypar.specs.steps.Promises.{AnswersFor}
use Rattle.polypar.proofs.RunLemmas.{command_answers, refused_answers, untouched}
use Rattle.polypar.proofs.input.run_input.Goals as goal

pub returns-in-Ok-clause-answer : goal.returns-in-Ok-clause-answer
returns-in-Ok-clause-answer g c =
    let parts = c.cut-parts.ensures in
    command_answers c.args.command _ c.args.input.now _ _ _ _ _ _ _ c.requires.short parts.kernel parts.case
    c.in-Ok.ensures.spells c.run_command-status.ensures

pub returns-in-Err-Refused-clause-answer : goal.returns-in-Err-Refused-clause-answer
returns-in-Err-Refused-clause-answer g c =
    let out = g.O.Sink.shows c.args.out.now in
    let err = g.E.Sink.shows c.args.err.now in
    subst (λ ending. AnswersFor c.args.command ending.status c.args.input.now out out err err) (sym c.of.ensures)
    (refused_answers c.args.command c.args.input.now _ _ out err c.requires.short c.cut-parts.ensures.kernel
    (search rules) c.requires.reads)

pub returns-in-Err-NoMemory-clause-answer : goal.returns-in-Err-NoMemory-clause-answer
returns-in-Err-NoMemory-clause-answer g c =
    let out = g.O.Sink.shows c.args.out.now in
    let err = g.E.Sink.shows c.args.err.now in
    subst (λ ending. AnswersFor c.args.command ending.status c.args.input.now out out err err)
    (sym c.of-in-Err-NoMemory.ensures)
    (untouched out err)
