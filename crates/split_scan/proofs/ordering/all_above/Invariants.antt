use Rattle.scop_syntax.proofs.Common.{take}
use Rattle.split_scan.specs.steps.Ordering.{IsBelowAll}
use Rattle.split_scan.proofs.ordering.all_above.Given as goal

abbrev pub invariant-loop-other : goal.invariant-loop-other
invariant-loop-other l =
    IsBelowAll l.level.place l.level.inside.items l.part (take l.other-index l.parts)
