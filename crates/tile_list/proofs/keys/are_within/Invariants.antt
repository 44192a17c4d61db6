use Rattle.scop_syntax.proofs.Common.{◌≡◌, take, pos}
use Rattle.loop_tree.specs.Tiling.{coordinates}
use Rattle.tile_list.proofs.keys.are_within.Given as goal

abbrev pub invariant-loop-place : goal.invariant-loop-place
invariant-loop-place l =
    take l.place l.tile ≡ coordinates (pos l.size) (take l.place l.rows) l.turns
