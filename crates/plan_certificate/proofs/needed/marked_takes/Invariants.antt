use Rattle.scop_syntax.proofs.Common.{◌≡◌, drop, map}
use Rattle.plan_check.specs.Derivations.{step_of}
use Rattle.plan_certificate.specs.Derivation.{marked_takes}
use Rattle.plan_certificate.proofs.needed.marked_takes.Given as goal

abbrev pub invariant-loop-at : goal.invariant-loop-at
invariant-loop-at l =
    marked_takes l.number (drop l.at l.marks) (map step_of (drop l.at l.lines))
    ≡ marked_takes l.number (drop l.from l.marks) (map step_of (drop l.from l.lines))
