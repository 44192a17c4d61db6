-- The model is the program's.
use Rattle.scop_syntax.proofs.Common.{program_of}
use Rattle.polypar.proofs.KernelLemmas.{plan_asked}
use Rattle.polypar.proofs.asked.model_told.Goals as goal

pub plan_told-requires : goal.plan_told-requires
plan_told-requires c = (program_of c.args.kernel.now, c.requires.kernel, c.requires.model)

pub returns-in-Schedule : goal.returns-in-Schedule
returns-in-Schedule c =
    plan_asked c.args.asked c.in-Schedule.budget (program_of c.args.kernel.now) c.args.model.now c.plan_told.result
    c.in-Schedule.is c.requires.model c.plan_told.ensures
