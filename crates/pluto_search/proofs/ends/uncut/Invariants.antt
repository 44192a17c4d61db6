use Rattle.scop_syntax.proofs.Common.{length}
use Rattle.pluto_search.specs.steps.StepParts.{AreWithin}
use Rattle.pluto_search.proofs.CutDependences.{Passes}
use Rattle.pluto_search.proofs.ends.uncut.Given as goal

abbrev pub invariant-loop-dep : goal.invariant-loop-dep
invariant-loop-dep l =
    goal.iterator-loop-dep.can_next l.dep-iterator × goal.iterator-loop-dep.is_finite l.dep-iterator
    × AreWithin (length l.numbers) l.dep-iterator.rest.items
    × Passes l.numbers l.dep-iterator.rest.items l.kept.items l.fn.deps.items
