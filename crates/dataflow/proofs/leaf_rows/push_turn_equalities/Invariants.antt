use Rattle.dataflow.proofs.Common.{◌≡◌, ◌+◌, ◌++◌, drop, turn_equalities}
use Rattle.dataflow.proofs.leaf_rows.push_turn_equalities.Given as goal

abbrev pub invariant-loop-step : goal.invariant-loop-step
invariant-loop-step l =
    l.out.items ++ turn_equalities l.layout (l.from + l.step) (drop l.step l.forms)
    ≡ l.fn.out.items ++ turn_equalities l.layout l.from l.forms
