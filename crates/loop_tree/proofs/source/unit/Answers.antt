use Rattle.scop_syntax.proofs.Common.{◌≤◌, ◌^◌, subst, sym, arith, Affine}
use Rattle.iteration_domains.specs.Rows.{variable}
use Rattle.iteration_domains.specs.Sizes.{form_size}
use Rattle.iteration_domains.proofs.Sizes.{size-variable}
use Rattle.loop_tree.proofs.source.unit.Goals as goal

pub narrow-requires : goal.narrow-requires
narrow-requires c =
    let u = size-variable c.args.variables c.args.at in
    let small : form_size (variable c.args.variables c.args.at) ≤ 2 ^ 50 = omega (arith, u) in
    subst (λ (f : Affine). form_size f ≤ 2 ^ 50) (sym c.in_ok-form.ensures) small
