use Rattle.conflict_deps.proofs.Common.{◌≤◌, subst, sym, ap, ◌∙◌, arith, Affine, variables_of, form_size}
use Rattle.conflict_deps.proofs.Shapes.{length-source, length-target, size-source, size-target}
use Rattle.conflict_deps.proofs.forms.subscript_difference.Goals as goal

pub plus_multiple-requires-clause-sized : goal.plus_multiple-requires-clause-sized
plus_multiple-requires-clause-sized c =
    let d = c.args.loops in
    let e = c.args.others in
    let m = c.args.parameters in
    ap variables_of c.in_ok-target.ensures
    ∙ (length-target d e m c.args.second.now c.requires.second.variables
    ∙ (sym (length-source d e m c.args.first.now c.requires.first.variables)
    ∙ sym (ap variables_of c.in_ok-source.ensures)))

pub plus_multiple-requires-clause-small : goal.plus_multiple-requires-clause-small
plus_multiple-requires-clause-small c =
    let f = c.args.first.now in
    let g = c.args.second.now in
    let a : form_size c.in_ok-source.source ≤ form_size f =
    subst (λ (h : Affine). form_size h ≤ form_size f) (sym c.in_ok-source.ensures)
    (size-source c.args.loops c.args.others f) in
    let b : form_size c.in_ok-target.target ≤ form_size g =
    subst (λ (h : Affine). form_size h ≤ form_size g) (sym c.in_ok-target.ensures) (size-target c.args.loops g) in
    let small = c.requires.first.numbers in
    let other = c.requires.second.numbers in
    omega arith
