-- Each extent of the arrays so far is positive.
use Rattle.scop_syntax.proofs.Common.{◌≡◌, drop}
use Rattle.data_text.specs.Cases.{bad_extent}
use Rattle.data_text.proofs.extents.bad_extent.Given as goal

abbrev pub invariant-loop-j : goal.invariant-loop-j
invariant-loop-j l = bad_extent l.params l.j (drop l.j l.arrays) ≡ bad_extent l.params 0 l.arrays
