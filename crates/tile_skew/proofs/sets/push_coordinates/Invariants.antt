use Rattle.scop_syntax.proofs.Common.{◌≡◌, ◌+◌, ◌++◌, drop, pos}
use Rattle.tile_skew.specs.ScanSets.{are_coordinates}
use Rattle.tile_skew.proofs.sets.push_coordinates.Given as goal

abbrev pub invariant-loop-at : goal.invariant-loop-at
invariant-loop-at l =
    let s = l.scattering in
    l.out.items ++ are_coordinates s.layout (pos s.size) (l.wave + 1 + l.at) (drop l.at l.rows)
    ≡ l.fn.out.items ++ are_coordinates s.layout (pos s.size) (l.wave + 1) l.rows
