use Rattle.data_text.specs.Cases.{data_said}
use Rattle.data_text.proofs.CaseLemmas.{one_of_both}
use Rattle.data_text.proofs.laws.said_once.Goals as goal

pub returns-clause-total : goal.returns-clause-total
returns-clause-total c = λ text program. one_of_both (data_said program text)
