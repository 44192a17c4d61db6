use Rattle.scop_syntax.proofs.Common.{ap, ◌∙◌, [], Right, stored_by}
use Rattle.contract_callers.proofs.instances.constant_stored.Goals as goal

pub returns : goal.returns
returns c = λ v n is right. c.value.ensures v is ∙ ap (λ (r : Right). stored_by r v.point []) right
