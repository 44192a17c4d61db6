use Rattle.whole_numbers.proofs.Common.{◌≡◌, ◌+◌, ◌-◌}
use Rattle.farkas.specs.Claims.{parameters}
use Rattle.farkas.specs.Matching.{coefficients_run}
use Rattle.farkas.specs.steps.Questions.{with_more}
use Rattle.farkas.proofs.matching.match_parameters.Given as goal

abbrev pub invariant-loop-place : goal.invariant-loop-place
invariant-loop-place l =
    with_more l.equalities.items (coefficients_run (l.system.dimensions + l.place)
    (parameters l.unknowns l.place l.factor (l.system.parameters - l.place)) l.system)
    ≡ with_more l.fn.equalities.items
    (coefficients_run l.system.dimensions (parameters l.unknowns 0 l.factor l.system.parameters) l.system)
