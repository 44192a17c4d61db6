use Rattle.conflict_deps.proofs.Common.{◌+◌, ◌≤◌, subst, sym, arith, Affine, form_size, size-variable}
use Rattle.conflict_deps.proofs.forms.turn_difference.Goals as goal

pub plus_multiple-requires-clause-small : goal.plus_multiple-requires-clause-small
plus_multiple-requires-clause-small c =
    let n = c.args.variables in
    let a : form_size c.in_ok-target.target ≤ 1 =
    subst (λ (f : Affine). form_size f ≤ 1) (sym c.in_ok-target.ensures) (size-variable n (c.args.loops + c.args.at)) in
    let b : form_size c.in_ok-source.source ≤ 1 =
    subst (λ (f : Affine). form_size f ≤ 1) (sym c.in_ok-source.ensures) (size-variable n c.args.at) in
    omega arith
