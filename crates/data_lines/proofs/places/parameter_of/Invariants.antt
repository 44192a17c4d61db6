-- The name is not among the names so far.
use Rattle.scop_syntax.proofs.Common.{◌≡◌, drop, map, position_from, bytes_eq}
use Rattle.data_lines.specs.Sheets.{found}
use Rattle.data_lines.proofs.places.parameter_of.Given as goal

abbrev pub invariant-loop-i : goal.invariant-loop-i
invariant-loop-i l = position_from (λ other. bytes_eq other l.name) l.i (map (λ n. n.items) (drop l.i l.parameters))
    ≡ found l.name (map (λ n. n.items) l.parameters)
