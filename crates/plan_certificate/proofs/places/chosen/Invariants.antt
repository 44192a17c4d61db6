use Rattle.scop_syntax.proofs.Common.{◌≡◌, ◌++◌, drop}
use Rattle.plan_certificate.specs.Derivation.{chosen}
use Rattle.plan_certificate.specs.steps.Places.{test_of}
use Rattle.plan_certificate.proofs.places.chosen.Given as goal

abbrev pub invariant-loop-at : goal.invariant-loop-at
invariant-loop-at l =
    l.out.items ++ chosen (test_of l.sign) l.variable l.rows (drop l.at l.places)
    ≡ chosen (test_of l.sign) l.variable l.rows l.places
