use Rattle.scop_syntax.proofs.Common.{rules, ◌≡◌, ◌<◌, ◌^◌, arith, subst, ap₂, pos, w128, IfOk, IfOk-weaker, Affine}
use Rattle.scop_syntax.proofs.Common.{form_of, zeros}
use Rattle.std.proofs.lemmas.Int.{to_z_pos}
use Rattle.tile_skew.specs.steps.Sizes.{FitsWidth}
use Rattle.tile_skew.proofs.Widths.{number_small}
use Rattle.tile_skew.proofs.forms.number_form.Goals as goal

pub returns-clause-form : goal.returns-clause-form
returns-clause-form c =
    let fits : c.args.number < 2 ^ 64 = search rules in
    subst (λ (g : Affine). IfOk c.constant_form.result (λ f. f ≡ g))
    (ap₂ (λ n k. form_of (zeros n) k) c.width.ensures (to_z_pos w128 c.args.number (omega (arith, fits))))
    c.constant_form.ensures

pub returns-clause-small : goal.returns-clause-small
returns-clause-small c =
    let l = c.args.scattering.now.layout in
    let fits : c.args.number < 2 ^ 64 = search rules in
    IfOk-weaker c.constant_form.result _ (FitsWidth l) (λ g made. number_small l (pos c.args.number) g made fits)
    (returns-clause-form c)
