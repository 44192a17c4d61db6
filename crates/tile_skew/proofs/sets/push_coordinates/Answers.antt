use Rattle.scop_syntax.proofs.Common.{◌≡◌, ◌<◌, ◌+◌, ◌++◌, ◌∙◌, drop_of_length-le, pos, ap, ap₂, rules, sym, subst, arith}
use Rattle.scop_syntax.proofs.Common.{length, All}
use Rattle.loop_tree.specs.Tiling.{TileRow}
use Rattle.tile_skew.specs.ScanSets.{are_coordinates, row_form}
use Rattle.tile_skew.specs.steps.Sizes.{FitsTurns}
use Rattle.tile_skew.proofs.ItemSteps.{coordinates_step, nothing_left}
use Rattle.tile_skew.proofs.sets.push_coordinates.Goals as goal

pub row_form-requires : goal.row_form-requires
row_form-requires c =
    let s = c.args.scattering.now in
    let rows = c.as_slice-rows.result.now in
    let inside : c.loop-at.at < length rows = omega (arith, c.loop-at-test.true) in
    let P : TileRow → Type 0 = λ r. FitsTurns s.layout.turns r.form in
    subst P (sym (c.row.view_is ∙ c.index-rows-at.is))
    (subst (All P) (sym c.as_slice-rows.ensures.value) s.small.band c.loop-at.at c.index-rows-at.result inside)

pub loop-at-preserved : goal.loop-at-preserved
loop-at-preserved c =
    let l = c.args.scattering.now.layout in
    let at = c.loop-at.at in
    let rows = c.as_slice-rows.result.now in
    let inside : at < length rows = omega (arith, c.loop-at-test.true) in
    coordinates_step l (pos c.args.scattering.now.size) (c.len-wave.result + 1) at rows c.index-rows-at.result
    c.in_ok-form.form c.loop-at.out.items c.push_coordinate.new.out.items _ inside c.index-rows-at.is
    (c.in_ok-form.ensures.form ∙ ap (λ r. row_form l r.form) c.row.view_is) c.in_ok-push_coordinate.ensures
    c.loop-at.invariant

pub returns : goal.returns
returns c =
    let s = c.args.scattering.now in
    let wave : c.len-wave.result ≡ length s.items.now.leading.items = search rules in
    nothing_left c.loop-at.out.items _ _
    (ap (λ rs. are_coordinates s.layout (pos s.size) (c.len-wave.result + 1 + c.loop-at.at) rs)
    (drop_of_length-le c.as_slice-rows.result.now (omega (arith, c.loop-at-test.false))))
    c.loop-at.invariant
    ∙ ap₂ (λ n rs. c.args.out.now.items ++ are_coordinates s.layout (pos s.size) (n + 1) rs) wave
    c.as_slice-rows.ensures.value
