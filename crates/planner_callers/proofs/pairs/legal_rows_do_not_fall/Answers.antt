use Rattle.scop_syntax.proofs.Common.{[], refl}
use Rattle.planner_callers.proofs.pairs.legal_rows_do_not_fall.Goals as goal

pub returns : goal.returns
returns c = λ d r x y suits legal relates. c.farkas_rows_do_not_fall.ensures 0 d r suits legal [] x y refl relates
