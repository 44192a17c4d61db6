use Rattle.scop_syntax.proofs.Common.{subst, ◌≤◌, ◌+◌}
use Rattle.planner_callers.proofs.covers.covers_have_the_turns_of_both_ends.Goals as goal

pub returns : goal.returns
returns c = λ model marked d is among.
    let lies = c.covers_lie_between_statements.ensures model 0 marked d is among in
    let first = subst (λ a. a + d.target.loops ≤ d.system.dimensions) lies.source_loops lies.dependence.turns in (
      lies.from,
      lies.to,
      lies.source,
      lies.target,
      subst (λ b. lies.from.domain.dimensions + b ≤ d.system.dimensions) lies.target_loops first,
      lies.parameters,
    )
