use Rattle.scop_syntax.proofs.Common.{◌≡◌, ◌+◌, ◌++◌, map, drop}
use Rattle.tile_skew.specs.ScanSets.{have_values, row_form}
use Rattle.tile_skew.proofs.sets.push_rows.Given as goal

abbrev pub invariant-loop-at : goal.invariant-loop-at
invariant-loop-at l =
    let layout = l.scattering.layout in
    l.out.items ++ have_values layout (l.first + l.at) (map (λ r. row_form layout r.form) (drop l.at l.rows))
    ≡ l.fn.out.items ++ have_values layout l.first (map (λ r. row_form layout r.form) l.rows)
