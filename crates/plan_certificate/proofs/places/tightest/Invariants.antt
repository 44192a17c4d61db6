use Rattle.scop_syntax.proofs.Common.{◌≡◌, [], drop}
use Rattle.plan_certificate.specs.Derivation.{with_places}
use Rattle.plan_certificate.proofs.places.tightest.Given as goal

abbrev pub invariant-loop-at : goal.invariant-loop-at
invariant-loop-at l = with_places l.rows l.out.items (drop l.at l.places) ≡ with_places l.rows [] l.places
