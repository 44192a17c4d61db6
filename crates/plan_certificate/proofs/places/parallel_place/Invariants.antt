use Rattle.scop_syntax.proofs.Common.{◌≡◌, ◌+◌, drop}
use Rattle.plan_certificate.specs.steps.Places.{parallel_place}
use Rattle.plan_certificate.proofs.places.parallel_place.Given as goal

abbrev pub invariant-loop-at : goal.invariant-loop-at
invariant-loop-at l =
    l.at + parallel_place l.rows l.other (drop l.at l.places) ≡ parallel_place l.rows l.other l.places
