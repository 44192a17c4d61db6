use Rattle.scop_syntax.proofs.Common.{[], refl}
use Rattle.planner_callers.proofs.pairs.rows_without_rising_pairs.Goals as goal

pub returns : goal.returns
returns c = λ d r x y suits kept none relates.
    (c.no_rising_pair_is_parallel.ensures 0 d r suits kept).0 none [] x y refl relates
