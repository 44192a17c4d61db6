-- Each extent so far is positive.
use Rattle.scop_syntax.proofs.Common.{◌≡◌, ◌+◌, drop, values}
use Rattle.data_text.specs.Cases.{bad_dimension}
use Rattle.data_text.proofs.extents.bad_dimension.Given as goal

abbrev pub invariant-loop-i : goal.invariant-loop-i
invariant-loop-i l = bad_dimension l.array (l.i + 1) (values (drop l.i l.extents) l.params) ≡ bad_dimension l.array
    1 (values l.extents l.params)
