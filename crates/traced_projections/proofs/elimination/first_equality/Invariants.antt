use Rattle.whole_numbers.proofs.Common.{◌≡◌, drop}
use Rattle.traced_projections.specs.Eliminating.{first_equality}
use Rattle.traced_projections.proofs.elimination.first_equality.Given as goal

abbrev pub invariant-loop-equality : goal.invariant-loop-equality
invariant-loop-equality l =
    first_equality l.variable (drop l.equality-index l.equalities) ≡ first_equality l.variable l.equalities
