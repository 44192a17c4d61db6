use Rattle.scop_syntax.proofs.Common.{◌≡◌, ◌++◌, drop, pos}
use Rattle.loop_tree.specs.Tiling.{coordinates}
use Rattle.tile_list.proofs.keys.push_coordinates.Given as goal

abbrev pub invariant-loop-row : goal.invariant-loop-row
invariant-loop-row l =
    l.list.items ++ coordinates (pos l.size) (drop l.row-index l.rows) l.turns
    ≡ l.fn.list.items ++ coordinates (pos l.size) l.rows l.turns
