-- The case's answer is the data's; or the data breaks a rule.
use Rattle.polypar.proofs.RunLemmas.{data_answers}
use Rattle.polypar.proofs.input.run_kernel.Goals as goal

pub returns-in-Ok : goal.returns-in-Ok
returns-in-Ok g c = data_answers _ _ _ _ _ _ _ _ _ _ c.in-Ok.ensures.said c.run_case.ensures
