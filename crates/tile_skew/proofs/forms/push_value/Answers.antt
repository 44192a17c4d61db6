use Rattle.scop_syntax.proofs.Common.{◌≤◌, subst, sym, ap, ◌∙◌, arith, Affine}
use Rattle.affine_forms.specs.Parts.{variables_of}
use Rattle.iteration_domains.specs.Sizes.{form_size}
use Rattle.iteration_domains.proofs.Surroundings.{length-variable}
use Rattle.iteration_domains.proofs.Sizes.{size-variable}
use Rattle.tile_skew.proofs.forms.push_value.Goals as goal

pub plus_multiple-requires-clause-sized : goal.plus_multiple-requires-clause-sized
plus_multiple-requires-clause-sized c =
    ap variables_of c.in_ok-dimension.ensures
    ∙ (ap (λ n. n) (length-variable _ c.args.at) ∙ (c.width.ensures ∙ sym c.requires.small.0))

pub plus_multiple-requires-clause-small : goal.plus_multiple-requires-clause-small
plus_multiple-requires-clause-small c =
    let small = c.requires.small.1 in
    let one : form_size c.in_ok-dimension.dimension ≤ 1 =
    subst (λ (f : Affine). form_size f ≤ 1) (sym c.in_ok-dimension.ensures) (size-variable _ c.args.at) in
    omega arith
