use Rattle.scop_syntax.proofs.Common.{◌≡◌, map, take, value_of, wrapped}
use Rattle.tile_edges.proofs.walking.put_cells.Given as goal

abbrev pub invariant-loop-access : goal.invariant-loop-access
invariant-loop-access l =
    l.cells.items ≡ map (λ form. wrapped (value_of form l.turns)) (take l.access l.row.cells.items)
