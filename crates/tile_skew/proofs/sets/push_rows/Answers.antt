use Rattle.scop_syntax.proofs.Common.{◌<◌, ◌+◌, ◌∷◌, ◌∙◌, map, drop, drop_of_length-le, ap, sym, subst, arith, length}
use Rattle.scop_syntax.proofs.Common.{drop_more}
use Rattle.loop_tree.specs.Tiling.{TileRow}
use Rattle.tile_skew.specs.ScanSets.{have_values, row_form}
use Rattle.tile_skew.specs.steps.Sizes.{FitsTurns}
use Rattle.tile_skew.proofs.ItemSteps.{values_step, nothing_left}
use Rattle.tile_skew.proofs.sets.push_rows.Goals as goal

pub row_form-requires : goal.row_form-requires
row_form-requires c =
    let inside : c.loop-at.at < length c.args.rows.now = omega (arith, c.loop-at-test.true) in
    subst (λ (r : TileRow). FitsTurns c.args.scattering.now.layout.turns r.form)
    (sym (c.row.view_is ∙ c.index-rows-at.is)) (c.requires.small c.loop-at.at c.index-rows-at.result inside)

pub loop-at-preserved : goal.loop-at-preserved
loop-at-preserved c =
    let l = c.args.scattering.now.layout in
    let at = c.loop-at.at in
    let rows = c.args.rows.now in
    let row = c.index-rows-at.result in
    let inside : at < length rows = omega (arith, c.loop-at-test.true) in
    let form = c.in_ok-form.ensures.form ∙ ap (λ r. row_form l r.form) c.row.view_is in
    let rest = map (λ r. row_form l r.form) (drop (at + 1) rows) in
    let there = ap (map (λ r. row_form l r.form)) (drop_more rows at row inside)
    ∙ ap (λ f. f ∷ rest) (ap (λ r. row_form l r.form) (sym c.index-rows-at.is) ∙ sym form) in
    values_step l c.args.first at c.in_ok-form.form _ rest c.loop-at.out.items c.push_value.new.out.items _ there
    c.in_ok-push_value.ensures c.loop-at.invariant

pub returns : goal.returns
returns c =
    let l = c.args.scattering.now.layout in
    nothing_left c.loop-at.out.items _ _
    (ap (λ rs. have_values l (c.args.first + c.loop-at.at) (map (λ r. row_form l r.form) rs))
    (drop_of_length-le c.args.rows.now (omega (arith, c.loop-at-test.false))))
    c.loop-at.invariant
