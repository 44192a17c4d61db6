use Rattle.scop_syntax.proofs.Common.{◌≡◌, ◌++◌, drop, map}
use Rattle.iteration_domains.specs.Outside.{fixed}
use Rattle.iteration_domains.proofs.outside.fixed_rows.Given as goal

abbrev pub invariant-loop-row : goal.invariant-loop-row
invariant-loop-row l =
    l.out.items ++ map (fixed l.turns l.forms) (drop l.row-index l.rows) ≡ map (fixed l.turns l.forms) l.rows
