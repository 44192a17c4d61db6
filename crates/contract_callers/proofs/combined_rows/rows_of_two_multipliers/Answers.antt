use Rattle.scop_syntax.proofs.Common.{arith}
use Rattle.contract_callers.proofs.combined_rows.rows_of_two_multipliers.Goals as goal

pub returns-clause-absent : goal.returns-clause-absent
returns-clause-absent c = c.own_rows_stay_behind_an_elimination.ensures.absent 1 1 2 (omega arith)

pub returns-clause-stay : goal.returns-clause-stay
returns-clause-stay c = c.own_rows_stay_behind_an_elimination.ensures.stay 1 1 2 (omega arith)
