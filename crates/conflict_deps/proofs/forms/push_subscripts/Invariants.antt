use Rattle.conflict_deps.proofs.Common.{◌≡◌, ◌++◌, drop, equalities_in, same_subscripts}
use Rattle.conflict_deps.proofs.forms.push_subscripts.Given as goal

abbrev pub invariant-loop-at : goal.invariant-loop-at
invariant-loop-at l =
    l.out.items ++ equalities_in (same_subscripts l.loops l.others (drop l.at l.first) (drop l.at l.second))
    ≡ l.fn.out.items ++ equalities_in (same_subscripts l.loops l.others l.first l.second)
