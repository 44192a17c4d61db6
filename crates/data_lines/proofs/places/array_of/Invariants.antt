-- The name is not among the names so far.
use Rattle.scop_syntax.proofs.Common.{◌≡◌, drop, map, position_from, bytes_eq, Declaration}
use Rattle.data_lines.specs.Sheets.{found}
use Rattle.data_lines.proofs.places.array_of.Given as goal

abbrev pub invariant-loop-j : goal.invariant-loop-j
invariant-loop-j l = position_from (λ other. bytes_eq other l.name) l.j
    (map (λ (a : Declaration). a.name) (drop l.j l.arrays))
    ≡ found l.name (map (λ (a : Declaration). a.name) l.arrays)
