use Rattle.conflict_deps.proofs.Common.{◌≡◌, ◌≤◌, subst, sym, ap, ◌∙◌, arith, Affine, length-zeros, variables_of}
use Rattle.conflict_deps.proofs.Common.{form_size}
use Rattle.conflict_deps.proofs.Shapes.{length-step, size-step, size-one}
use Rattle.conflict_deps.proofs.forms.later_turn.Goals as goal

pub plus_multiple-requires-clause-sized : goal.plus_multiple-requires-clause-sized
plus_multiple-requires-clause-sized c =
    let n = c.args.variables in
    ap variables_of c.in_ok-one.ensures ∙ (length-zeros n
    ∙ (sym (length-step n c.args.loops c.args.at) ∙ sym (ap variables_of c.in_ok-difference.ensures)))

pub plus_multiple-requires-clause-small : goal.plus_multiple-requires-clause-small
plus_multiple-requires-clause-small c =
    let n = c.args.variables in
    let a : form_size c.in_ok-difference.difference ≤ 2 =
    subst (λ (f : Affine). form_size f ≤ 2) (sym c.in_ok-difference.ensures) (size-step n c.args.loops c.args.at) in
    let b : form_size c.in_ok-one.one ≡ 1 = ap form_size c.in_ok-one.ensures ∙ size-one n in
    omega arith
