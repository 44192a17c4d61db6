use Rattle.scop_syntax.proofs.Common.{◌≡◌, ◌+◌, ◌++◌, map, drop, pos}
use Rattle.tile_skew.specs.ScanSets.{have_values, number_form}
use Rattle.tile_skew.proofs.sets.push_leading.Given as goal

abbrev pub invariant-loop-at : goal.invariant-loop-at
invariant-loop-at l =
    let layout = l.scattering.layout in
    l.out.items ++ have_values layout (l.first + l.at) (map (λ k. number_form layout (pos k)) (drop l.at l.leading))
    ≡ l.fn.out.items ++ have_values layout l.first (map (λ k. number_form layout (pos k)) l.leading)
