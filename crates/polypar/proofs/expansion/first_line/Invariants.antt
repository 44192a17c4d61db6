-- The first that is not told is still to come.
use Rattle.scop_syntax.proofs.Common.{◌≡◌, drop}
use Rattle.polypar.specs.Expanding.{first_unresolved}
use Rattle.polypar.proofs.expansion.first_line.Given as goal

abbrev pub invariant-loop-source : goal.invariant-loop-source
invariant-loop-source l = first_unresolved (drop l.source-index l.sources) ≡ first_unresolved l.sources
