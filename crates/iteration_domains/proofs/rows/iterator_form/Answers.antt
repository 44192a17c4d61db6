use Rattle.scop_syntax.proofs.Common.{◌≡◌, ◌+◌, ◌*◌, ◌^◌, ◌≤◌, ℤ, length, arith, ap, subst, sym, ◌∙◌, to_z, of_z}
use Rattle.scop_syntax.proofs.Common.{mul-le-mul, FitsSigned, unsigned_abs, w64, w128, to_z-of_z, fits_signed_from_abs}
use Rattle.scop_syntax.proofs.Common.{Affine, composed, Head}
use Rattle.integer_sets.specs.Parts.{variables_of}
use Rattle.iteration_domains.specs.Sizes.{CanCompose, form_size, forms_size}
use Rattle.iteration_domains.proofs.Surroundings.{can_compose, length-variable}
use Rattle.iteration_domains.proofs.Sizes.{size-composed, size-variable}
use Rattle.iteration_domains.proofs.rows.iterator_form.Goals as goal

pub compose-requires : goal.compose-requires
compose-requires c =
    let h = c.args.head.now in
    let first = ap (λ (z : Head). z.first) c.head.view_is in
    subst (CanCompose c.args.variables c.args.forms.now) (sym first)
    (can_compose c.args.variables 16 (2 ^ 20) c.args.forms.now h.first c.requires.head.first c.requires.sized
    (omega arith) (omega arith) c.requires.small)

pub plus_multiple-requires-clause-sized : goal.plus_multiple-requires-clause-sized
plus_multiple-requires-clause-sized c =
    ap variables_of c.in_ok-turn.ensures
    ∙ (length-variable c.args.variables c.args.at ∙ sym c.in_ok-first.ensures.sized)

pub plus_multiple-requires-clause-small : goal.plus_multiple-requires-clause-small
plus_multiple-requires-clause-small c =
    let n = c.args.variables in
    let k = c.head.inside.stride in
    let turn = c.in_ok-turn.turn in
    let forms = c.args.forms.now in
    let h = c.args.head.now in
    let few : unsigned_abs k ≤ 16 =
    subst (λ (z : ℤ). unsigned_abs z ≤ 16) (sym (ap (λ (z : Head). z.stride) c.head.view_is)) c.requires.head.stride in
    let fit : FitsSigned w64 k = fits_signed_from_abs w64 k (omega arith) in
    let wide : FitsSigned w128 k = fits_signed_from_abs w128 k (omega arith) in
    let e : to_z w128 (of_z w128 (to_z w64 (of_z w64 k))) ≡ k =
    ap (λ z. to_z w128 (of_z w128 z)) (to_z-of_z w64 k fit) ∙ to_z-of_z w128 k wide in
    let one : form_size turn ≤ 1 =
    subst (λ (f : Affine). form_size f ≤ 1) (sym c.in_ok-turn.ensures) (size-variable n c.args.at) in
    let p : unsigned_abs k * form_size turn ≤ 16 * 1 = mul-le-mul few one in
    let first = c.in_ok-first.ensures.form ∙ ap (λ (z : Head). composed z.first forms n) c.head.view_is in
    let q : form_size c.in_ok-first.first ≤ 16 * forms_size forms + 2 ^ 20 =
    subst (λ (f : Affine). form_size f ≤ 16 * forms_size forms + 2 ^ 20) (sym first)
    (size-composed (length forms) 16 (2 ^ 20) n forms h.first c.requires.head.first) in
    let small = c.requires.small in
    subst (λ (z : ℤ). form_size c.in_ok-first.first + unsigned_abs z * form_size turn ≤ 2 ^ 100) (sym e) (omega arith)
