use Rattle.scop_syntax.proofs.Common.{◌≡◌, ℤ, List, map, take, value_of, wrapped}
use Rattle.tile_table.specs.Desks.{IsLaid}
use Rattle.tile_edges.proofs.walking.put_laid.Given as goal

abbrev pub invariant-loop-access : goal.invariant-loop-access
invariant-loop-access l =
    (steps turns : List ℤ) → IsLaid l.row steps turns l.desk
    → l.cells.items ≡ map (λ form. wrapped (value_of form turns)) (take l.access l.row.cells.items)
