use Rattle.scop_syntax.proofs.Common.{◌≡◌, drop}
use Rattle.plan_certificate.specs.Derivation.{contradiction_in}
use Rattle.plan_certificate.proofs.dividing.contradiction_in.Given as goal

abbrev pub invariant-loop-at : goal.invariant-loop-at
invariant-loop-at l = contradiction_in l.at (drop l.at l.rows) ≡ contradiction_in 0 l.rows
