use Rattle.scop_syntax.proofs.Common.{◌≡◌, ◌+◌, ◌-◌, ◌++◌}
use Rattle.iteration_domains.specs.Rows.{variables}
use Rattle.iteration_domains.proofs.forms.push_variables.Given as goal

abbrev pub invariant-loop-step : goal.invariant-loop-step
invariant-loop-step l =
    l.out.items ++ variables l.of (l.from + l.step) (l.count - l.step)
    ≡ l.fn.out.items ++ variables l.of l.from l.count
