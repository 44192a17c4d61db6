use Rattle.scop_syntax.proofs.Common.{◌≡◌, ◌++◌, map}
use Rattle.pluto_systems.specs.Stuck.TheVariants as stuck
use Rattle.pluto_systems.specs.Posing.{dep_of}
use Rattle.pluto_search.specs.Questions.{StopsRowsOf}
use Rattle.pluto_search.specs.steps.Steps.{AreRules}
use Rattle.pluto_search.proofs.next.rule_all.Given as goal

abbrev pub invariant-loop-dep : goal.invariant-loop-dep
invariant-loop-dep l =
    goal.iterator-loop-dep.can_next l.dep-iterator × goal.iterator-loop-dep.is_finite l.dep-iterator
    × (map dep_of l.all.items ++ l.dep-iterator.rest.items ≡ map dep_of l.fn.ruled.items ++ l.fn.bare.items)
    × (AreRules l.budget l.fn.ruled.items → AreRules l.budget l.all.items)
    × ((stop : stuck.the_data) → StopsRowsOf l.budget l.dep-iterator.rest.items stop
    → StopsRowsOf l.budget l.fn.bare.items stop)
