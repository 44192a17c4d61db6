use Rattle.whole_numbers.proofs.Common.{◌≡◌, ◌+◌, ◌-◌}
use Rattle.farkas.specs.Claims.{iterators}
use Rattle.farkas.specs.Matching.{coefficients_run}
use Rattle.farkas.specs.steps.Questions.{with_more}
use Rattle.farkas.proofs.matching.match_iterators.Given as goal

abbrev pub invariant-loop-depth : goal.invariant-loop-depth
invariant-loop-depth l =
    with_more l.equalities.items
    (coefficients_run (l.variable + l.depth) (iterators l.unknowns l.first l.factor (l.loops - l.depth)) l.system)
    ≡ with_more l.fn.equalities.items
    (coefficients_run l.variable (iterators l.unknowns l.first l.factor l.loops) l.system)
