use Rattle.scop_syntax.proofs.Common.{ℕ, ◌<◌, get_or}
use Rattle.split_scan.specs.steps.Ordering.{AreBelow}
use Rattle.split_scan.specs.declared.part.Part.{Part}
use Rattle.split_scan.proofs.ordering.below.Given as goal

abbrev pub invariant-loop-at : goal.invariant-loop-at
invariant-loop-at l = (k : ℕ) (d : Part) → k < l.at
    → AreBelow l.level.place l.level.inside.items (get_or l.parts k d).cuts.items l.part.cuts.items
