use Rattle.tree_simplification.proofs.Common.{◌≡◌, ◌-◌, ◌++◌, variables}
use Rattle.tree_simplification.proofs.single.place.push_units.Given as goal

abbrev pub invariant-loop-at : goal.invariant-loop-at
invariant-loop-at l =
    l.forms.items ++ variables l.of l.at (l.of - l.at) ≡ l.fn.forms.items ++ variables l.of l.from (l.of - l.from)
