use Rattle.conflict_deps.proofs.Common.{◌≡◌, ◌++◌, equalities_in, equal_turns}
use Rattle.conflict_deps.proofs.forms.push_equal_turns.Given as goal

abbrev pub invariant-loop-at : goal.invariant-loop-at
invariant-loop-at l = l.out.items ≡ l.fn.out.items ++ equalities_in (equal_turns l.variables l.loops l.at)
