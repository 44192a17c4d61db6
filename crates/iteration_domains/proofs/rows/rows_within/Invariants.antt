use Rattle.iteration_domains.specs.Path.{shown}
use Rattle.iteration_domains.specs.Standing.{starting}
use Rattle.iteration_domains.proofs.Surroundings.{Entering}
use Rattle.iteration_domains.proofs.rows.rows_within.Given as goal

abbrev pub invariant-loop-scope : goal.invariant-loop-scope
invariant-loop-scope l = Entering (shown l.rows) (starting l.parameters l.loops) l.path l.scope-index
