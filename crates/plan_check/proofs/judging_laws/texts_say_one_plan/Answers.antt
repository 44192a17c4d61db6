use Rattle.scop_syntax.proofs.Common.{◌∙◌, sym}
use Rattle.plan_check.proofs.judging_laws.texts_say_one_plan.Goals as goal

pub returns : goal.returns
returns c program text a b one other = one ∙ sym other
