use Rattle.scop_syntax.proofs.Common.{◌≡◌, ◌+◌, ◌*◌, ◌≤◌, ◌^◌, ℤ, subst, sym, ap, ap₂, ◌∙◌, unsigned_abs, IfOk, Affine}
use Rattle.scop_syntax.proofs.Common.{sum_of_forms, multiple_of_form}
use Rattle.affine_forms.specs.Parts.{variables_of}
use Rattle.iteration_domains.specs.Rows.{variable}
use Rattle.iteration_domains.specs.Sizes.{form_size}
use Rattle.iteration_domains.proofs.Surroundings.{length-variable}
use Rattle.iteration_domains.proofs.Sizes.{size-variable}
use Rattle.tile_skew.proofs.Widths.{opposite_size, opposite_held, small_sum}
use Rattle.tile_skew.proofs.forms.tile_begins.Goals as goal

pub plus_multiple-requires-clause-sized : goal.plus_multiple-requires-clause-sized
plus_multiple-requires-clause-sized c =
    ap variables_of c.in_ok-dimension.ensures
    ∙ (length-variable _ c.args.at ∙ (c.width.ensures ∙ sym c.requires.small.0))

pub plus_multiple-requires-clause-small : goal.plus_multiple-requires-clause-small
plus_multiple-requires-clause-small c =
    let f = c.args.form.now in
    let n = c.args.scattering.now.size in
    let most = c.args.scattering.now.tiles.1 in
    let one : form_size c.in_ok-dimension.dimension ≤ 1 =
    subst (λ (g : Affine). form_size g ≤ 1) (sym c.in_ok-dimension.ensures) (size-variable _ c.args.at) in
    subst (λ (z : ℤ). form_size f + unsigned_abs z * form_size c.in_ok-dimension.dimension ≤ 2 ^ 100)
    (sym (opposite_held n most))
    (small_sum (form_size f) (form_size c.in_ok-dimension.dimension) _ c.requires.small.1 (opposite_size n most) one)

pub returns : goal.returns
returns c =
    let held = opposite_held c.args.scattering.now.size c.args.scattering.now.tiles.1 in
    let dimension = c.in_ok-dimension.ensures ∙ ap (λ n. variable n c.args.at) c.width.ensures in
    subst (λ (g : Affine). IfOk c.plus_multiple.result (λ f. f ≡ sum_of_forms c.args.form.now g))
    (ap₂ multiple_of_form held dimension) c.plus_multiple.ensures
