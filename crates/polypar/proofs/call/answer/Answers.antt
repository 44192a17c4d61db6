-- The words are a command, or none, or there was no memory.
use Rattle.scop_syntax.proofs.Common.{Err, ap, inl, inr, refl}
use Rattle.plan_search.specs.Status.TheVariants.{NoMemory, Usage}
use Rattle.polypar.proofs.EndLemmas.{command_ends, none_ends}
use Rattle.polypar.proofs.call.answer.Goals as goal

pub returns-in-Ok : goal.returns-in-Ok
returns-in-Ok g c =
    command_ends _ c.in-Ok.command _ _ _ _ _ _ _ _ c.in-Ok.ensures.taken c.in-Ok.ensures.command
    c.answer_command.ensures

pub returns-in-Err-Usage : goal.returns-in-Err-Usage
returns-in-Err-Usage g c =
    none_ends _ Usage c.of.result _ _ _ c.of.ensures tt
    (inl (refl, c.in-Err-Usage.ensures.usage (ap Err c.in-Err-Usage.field-0-is)))

pub returns-in-Err-NoMemory : goal.returns-in-Err-NoMemory
returns-in-Err-NoMemory g c =
    none_ends _ NoMemory c.of-in-Err-NoMemory.result _ _ _ c.of-in-Err-NoMemory.ensures tt (inr refl)
