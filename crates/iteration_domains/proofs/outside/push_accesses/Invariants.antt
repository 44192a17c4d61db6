use Rattle.scop_syntax.proofs.Common.{◌≡◌, ◌++◌, drop, layout, program_of}
use Rattle.iteration_domains.specs.Outside.{outside_accesses}
use Rattle.iteration_domains.proofs.outside.push_accesses.Given as goal

abbrev pub invariant-loop-access : goal.invariant-loop-access
invariant-loop-access l =
    l.out.items
    ++ outside_accesses (layout (program_of l.kernel) l.params) l.domain l.forms (drop l.access-index l.accesses)
    ≡ l.fn.out.items ++ outside_accesses (layout (program_of l.kernel) l.params) l.domain l.forms l.accesses
