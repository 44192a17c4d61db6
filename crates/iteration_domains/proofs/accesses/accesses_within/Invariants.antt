use Rattle.scop_syntax.proofs.Common.{◌≡◌, ◌++◌, accesses, drop, map, statement_of}
use Rattle.iteration_domains.specs.Model.{composed_access}
use Rattle.iteration_domains.proofs.accesses.accesses_within.Given as goal

abbrev pub invariant-loop-number : goal.invariant-loop-number
invariant-loop-number l =
    l.found.items ++ map (composed_access l.variables l.forms) (drop l.number (accesses (statement_of l.statement)))
    ≡ map (composed_access l.variables l.forms) (accesses (statement_of l.statement))
