use Rattle.whole_numbers.proofs.Common.{◌≡◌, ◌+◌, ◌-◌}
use Rattle.farkas.specs.Claims.{nones}
use Rattle.farkas.specs.Matching.{coefficients_run}
use Rattle.farkas.specs.steps.Questions.{with_more}
use Rattle.farkas.proofs.matching.match_nones.Given as goal

abbrev pub invariant-loop-at : goal.invariant-loop-at
invariant-loop-at l =
    with_more l.equalities.items (coefficients_run (l.variable + l.at) (nones l.unknowns (l.count - l.at)) l.system)
    ≡ with_more l.fn.equalities.items (coefficients_run l.variable (nones l.unknowns l.count) l.system)
