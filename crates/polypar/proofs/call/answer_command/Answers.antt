-- What was written is flushed, or that fails.
use Rattle.scop_syntax.proofs.Common.{rules}
use Rattle.polypar.proofs.AnswerLemmas.{done_flushed, done_unflushed}
use Rattle.polypar.proofs.EndLemmas.{fault_named}
use Rattle.polypar.proofs.call.answer_command.Goals as goal

pub returns-in-Ok : goal.returns-in-Ok
returns-in-Ok g c =
    let ends = c.end_of-ending.ensures in
    record {
      answer = done_flushed c.args.command c.end_of-ending.result.status _ _ _ _ _ _ _ (search rules) ends.answer
          c.in-Ok.ensures.done;
      names = ends.names;
      read_on = ends.read_on;
    }

pub returns-in-Err : goal.returns-in-Err
returns-in-Err g c =
    let ends = c.end_of-ending.ensures in
    record {
      answer = done_unflushed c.args.command c.end_of-ending.result.status _ _ _ _ _ _ _ (search rules) ends.answer
          c.in-Err.ensures.failed;
      names = fault_named _ c.end_of-ending.result.status _ ends.names;
      read_on = ends.read_on;
    }
