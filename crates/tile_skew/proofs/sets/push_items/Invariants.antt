use Rattle.scop_syntax.proofs.Common.{◌≡◌, ◌+◌, ◌++◌, map, drop}
use Rattle.loop_tree.specs.TilingView.{item_of}
use Rattle.tile_skew.specs.ScanSets.{have_values, item_form}
use Rattle.tile_skew.proofs.sets.push_items.Given as goal

abbrev pub invariant-loop-at : goal.invariant-loop-at
invariant-loop-at l =
    let layout = l.scattering.layout in
    l.out.items ++ have_values layout (l.first + l.at) (map (item_form layout) (map item_of (drop l.at l.items)))
    ≡ l.fn.out.items ++ have_values layout l.first (map (item_form layout) (map item_of l.items))
