use Rattle.scop_syntax.proofs.Common.{arith}
use Rattle.run_callers.proofs.releases.pairs_of_three_tiles.Goals as goal

pub returns : goal.returns
returns c = λ e edges many from to.
    let same = c.pairs_make_plans.ensures.once 3 e edges 0 2 (omega (arith, many)) many from to in
    absurd (omega (arith, same))
