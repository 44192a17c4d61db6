use Rattle.scop_syntax.proofs.Common.{◌≡◌, drop}
use Rattle.plan_certificate.specs.Derivation.{takes}
use Rattle.plan_certificate.proofs.needed.takes.Given as goal

abbrev pub invariant-loop-at : goal.invariant-loop-at
invariant-loop-at l = takes l.number (drop l.at l.terms) ≡ takes l.number l.terms
