use Rattle.scop_syntax.proofs.Common.{◌≡◌, ◌-◌, ◌++◌}
use Rattle.iteration_domains.specs.Rows.{variables}
use Rattle.loop_tree.proofs.source.units.Given as goal

abbrev pub invariant-loop-at : goal.invariant-loop-at
invariant-loop-at l = l.forms.items ++ variables l.of l.at (l.count - l.at) ≡ variables l.of 0 l.count
