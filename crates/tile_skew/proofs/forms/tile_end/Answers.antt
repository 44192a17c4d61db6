use Rattle.scop_syntax.proofs.Common.{◌≡◌, ◌+◌, ◌-◌, ◌*◌, ◌≤◌, ◌^◌, ℤ, pos, subst, sym, ap, ap₂, ◌∙◌, arith, ints}
use Rattle.scop_syntax.proofs.Common.{unsigned_abs, ◌-ℤ◌, IfOk, Affine, sum_of_forms, multiple_of_form}
use Rattle.affine_forms.specs.Parts.{variables_of}
use Rattle.iteration_domains.specs.Rows.{variable}
use Rattle.iteration_domains.specs.Sizes.{form_size}
use Rattle.iteration_domains.proofs.Surroundings.{length-variable}
use Rattle.iteration_domains.proofs.Sizes.{size-variable}
use Rattle.tile_skew.specs.ScanSets.{number_form}
use Rattle.tile_skew.proofs.Widths.{tile_held, small_sum}
use Rattle.tile_skew.proofs.forms.tile_end.Goals as goal

pub plus_multiple-requires-clause-sized : goal.plus_multiple-requires-clause-sized
plus_multiple-requires-clause-sized c =
    ap variables_of c.in_ok-dimension.ensures
    ∙ (length-variable _ c.args.at ∙ (c.width.ensures ∙ sym c.in_ok-last.ensures.small.0))

pub plus_multiple-requires-clause-small : goal.plus_multiple-requires-clause-small
plus_multiple-requires-clause-small c =
    let n = c.args.scattering.now.size in
    let most = c.args.scattering.now.tiles.1 in
    let one : form_size c.in_ok-dimension.dimension ≤ 1 =
    subst (λ (g : Affine). form_size g ≤ 1) (sym c.in_ok-dimension.ensures) (size-variable _ c.args.at) in
    subst (λ (z : ℤ). form_size c.in_ok-last.last + unsigned_abs z * form_size c.in_ok-dimension.dimension ≤ 2 ^ 100)
    (sym (tile_held n most))
    (small_sum (form_size c.in_ok-last.last) (form_size c.in_ok-dimension.dimension) n c.in_ok-last.ensures.small.1
    most one)

pub returns : goal.returns
returns c =
    let n = c.args.scattering.now.size in
    let tiles = c.args.scattering.now.tiles in
    let some = tiles.0 in
    let less : pos (n - 1) ≡ pos n -ℤ pos 1 = omega (arith, ints, some) in
    let last = c.in_ok-last.ensures.form ∙ ap (number_form c.args.scattering.now.layout) less in
    let dimension = c.in_ok-dimension.ensures ∙ ap (λ n. variable n c.args.at) c.width.ensures in
    subst (λ (g : Affine). IfOk c.plus_multiple.result (λ f. f ≡ g))
    (ap₂ sum_of_forms last (ap₂ multiple_of_form (tile_held n tiles.1) dimension)) c.plus_multiple.ensures
