use Rattle.scop_syntax.proofs.Common.{◌≡◌, ◌++◌, drop, flat_map, layout, program_of}
use Rattle.iteration_domains.specs.Outside.{outside_statement}
use Rattle.iteration_domains.proofs.model.Model.outside_systems.Given as goal

abbrev pub invariant-loop-statement : goal.invariant-loop-statement
invariant-loop-statement l =
    l.systems.items
    ++ flat_map (outside_statement (layout (program_of l.kernel) l.params) l.params)
    (drop l.statement-index l.statement-items)
    ≡ flat_map (outside_statement (layout (program_of l.kernel) l.params) l.params) l.statement-items
