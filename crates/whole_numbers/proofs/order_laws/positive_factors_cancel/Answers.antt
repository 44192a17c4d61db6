use Rattle.whole_numbers.proofs.Order.{cancel_eq}
use Rattle.whole_numbers.proofs.order_laws.positive_factors_cancel.Goals as goal

pub returns-clause-equal : goal.returns-clause-equal
returns-clause-equal c = cancel_eq
