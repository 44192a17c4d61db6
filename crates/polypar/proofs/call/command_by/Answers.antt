-- The line stands behind what the call answered.
use Rattle.scop_syntax.proofs.Common.{subst}
use Rattle.polypar.specs.steps.Promises.{TellsStatus}
use Rattle.polypar.proofs.AnswerLemmas.{answered, lent_program}
use Rattle.polypar.proofs.call.command_by.Goals as goal

pub returns : goal.returns
returns g c =
    let ending = c.answer-ending.ensures in
    let before = g.E.Sink.shows c.answer-ending.new.err in
    let told = subst (λ named. TellsStatus named c.answer-ending.result.status before (g.E.Sink.shows c.tell.new.err))
    (lent_program c.as_ref.result c.answer-ending.result.kernel c.as_ref.ensures.value) c.tell.ensures in
    answered c.deserved_once.ensures.one _ _ _ _ _ _ _ _ before _ ending.answer ending.names ending.read_on told
