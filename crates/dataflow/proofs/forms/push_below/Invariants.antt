use Rattle.dataflow.proofs.Common.{◌≡◌, ◌+◌, ◌-◌, ◌++◌, pos, all_below}
use Rattle.dataflow.proofs.forms.push_below.Given as goal

abbrev pub invariant-loop-step : goal.invariant-loop-step
invariant-loop-step l =
    l.out.items ++ all_below (pos l.most) l.of (l.from + l.step) (l.count - l.step)
    ≡ l.fn.out.items ++ all_below (pos l.most) l.of l.from l.count
