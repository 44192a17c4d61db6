use Rattle.scop_syntax.proofs.Common.{◌∙◌, [], arith, subst, ◌<◌}
use Rattle.tile_core.specs.Plans.{deal_of}
use Rattle.run_callers.proofs.cores.plans_of_three_places.Goals as goal

pub returns-clause-scan : goal.returns-clause-scan
returns-clause-scan c = λ plan is three.
    subst (λ n. (deal_of plan).rank 0 < n) three
    ((c.plans_are_good.ensures.scan plan is).rank 0 (omega (arith, three)))

pub returns-clause-count : goal.returns-clause-count
returns-clause-count c = λ plan is three. c.plans_are_good.ensures.count plan is ∙ three

pub returns-clause-good : goal.returns-clause-good
returns-clause-good c = λ plan is. c.plans_are_good.ensures.good plan [] is

pub returns-clause-dealt : goal.returns-clause-dealt
returns-clause-dealt c = λ plan is. c.plans_are_good.ensures.dealt plan [] is
