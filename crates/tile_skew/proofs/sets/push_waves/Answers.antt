use Rattle.scop_syntax.proofs.Common.{ap, length, pos, map, ◌++◌, ◌∙◌}
use Rattle.loop_tree.specs.TilingView.{items_of}
use Rattle.tile_skew.specs.ScanSets.{have_values, number_form}
use Rattle.tile_skew.proofs.ItemSteps.{waves_put}
use Rattle.tile_skew.proofs.sets.push_waves.Goals as goal

pub returns : goal.returns
returns c =
    let l = c.args.scattering.now.layout in
    let shown = c.as_slice-leading.ensures.value in
    waves_put l (items_of c.args.scattering.now.items.now) c.args.out.now.items c.push_leading.new.out.items
    c.push_value.new.out.items c.in_ok-sum.sum (length c.as_slice-leading.result.now) (ap length shown)
    (c.in_ok-push_leading.ensures
    ∙ ap (λ ks. c.args.out.now.items ++ have_values l 0 (map (λ k. number_form l (pos k)) ks)) shown)
    c.in_ok-sum.ensures.form c.in_ok-push_value.ensures
