use Rattle.scop_syntax.proofs.Common.{◌≡◌, ◌+◌, drop, values, Visit}
use Rattle.scop_syntax.specs.Failures.{outside_dimensions}
use Rattle.scop_meaning.specs.steps.Conditions.{first_of}
use Rattle.scop_meaning.proofs.index.outside_dimension.Given as goal

abbrev pub invariant-loop-at : goal.invariant-loop-at
invariant-loop-at l =
    (v : Visit) → v.number + 1 ≡ l.stmt
    → first_of (outside_dimensions v l.access l.at (drop l.at (values l.subscripts l.point)) (drop l.at l.sizes))
    ≡ first_of (outside_dimensions v l.access 0 (values l.subscripts l.point) l.sizes)
