use Rattle.plan_search.proofs.OneText.{one_text}
use Rattle.plan_search.proofs.laws.models_have_one_plan_text.Goals as goal

pub returns : goal.returns
returns c = λ budget model text other is is_other.
    one_text c.dependences_have_one_schedule.ensures c.searches_answer_once.ensures budget model text other is is_other
