use Rattle.pluto_search.proofs.OneAnswer.{one_answer}
use Rattle.pluto_search.proofs.laws.searches_answer_once.Goals as goal

pub returns : goal.returns
returns c = λ model deps budget a b h k x y.
    one_answer c.each_state_has_one_outcome.ensures model deps budget a b h k x y
