use Rattle.scop_syntax.proofs.Common.{◌≡◌, ◌≤◌, negsuc, pos, subst, sym, ap, ◌∙◌, arith, IfOk, Affine, sum_of_forms}
use Rattle.scop_syntax.proofs.Common.{multiple_of_form}
use Rattle.affine_forms.specs.Parts.{variables_of}
use Rattle.iteration_domains.specs.Sizes.{form_size}
use Rattle.tile_skew.proofs.Widths.{length-end, size-end}
use Rattle.tile_skew.proofs.forms.tile_ends.Goals as goal

pub plus_multiple-requires-clause-sized : goal.plus_multiple-requires-clause-sized
plus_multiple-requires-clause-sized c =
    c.requires.small.0 ∙ sym (ap variables_of c.in_ok-end.ensures
    ∙ length-end c.args.scattering.now.layout (pos c.args.scattering.now.size) c.args.at)

pub plus_multiple-requires-clause-small : goal.plus_multiple-requires-clause-small
plus_multiple-requires-clause-small c =
    let small = c.requires.small.1 in
    let few : form_size c.in_ok-end.end ≤ 2048 =
    subst (λ (g : Affine). form_size g ≤ 2048) (sym c.in_ok-end.ensures)
    (size-end c.args.scattering.now.layout c.args.scattering.now.size c.args.at c.args.scattering.now.tiles.1) in
    omega arith

pub returns : goal.returns
returns c =
    subst (λ (g : Affine). IfOk c.plus_multiple.result
    (λ f. f ≡ sum_of_forms g (multiple_of_form (negsuc 0) c.args.form.now))) c.in_ok-end.ensures c.plus_multiple.ensures
