use Rattle.scop_syntax.proofs.Common.{◌≡◌, Visit, accesses, drop, statement_of}
use Rattle.scop_syntax.specs.Failures.{outside_accesses}
use Rattle.scop_meaning.specs.steps.Conditions.{IsAt, first_of}
use Rattle.scop_meaning.proofs.index.outside_statement.Given as goal

abbrev pub invariant-loop-number : goal.invariant-loop-number
invariant-loop-number l =
    (v : Visit) → IsAt l.stmt l.point v
    → first_of (outside_accesses l.extents v l.number (drop l.number (accesses (statement_of l.statement))))
    ≡ first_of (outside_accesses l.extents v 0 (accesses (statement_of l.statement)))
