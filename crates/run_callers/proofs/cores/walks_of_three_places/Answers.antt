use Rattle.scop_syntax.proofs.Common.{◌∙◌, [], arith, subst, ◌<◌}
use Rattle.tile_core.specs.Plans.{deal_of}
use Rattle.run_callers.proofs.cores.walks_of_three_places.Goals as goal

pub returns-clause-scan : goal.returns-clause-scan
returns-clause-scan c = λ plan is three.
    subst (λ n. (deal_of plan).rank 0 < n) three
    ((c.walks_are_dealt.ensures.scan plan is).rank 0 (omega (arith, three)))

pub returns-clause-count : goal.returns-clause-count
returns-clause-count c = λ plan is three. c.walks_are_dealt.ensures.count plan is ∙ three

pub returns-clause-good : goal.returns-clause-good
returns-clause-good c = λ plan is. c.walks_are_dealt.ensures.good plan [] is

pub returns-clause-dealt : goal.returns-clause-dealt
returns-clause-dealt c = λ plan is. c.walks_are_dealt.ensures.dealt plan [] is

pub returns-clause-held : goal.returns-clause-held
returns-clause-held c = λ plan is v at. c.walks_are_dealt.ensures.held plan is 0 v at
