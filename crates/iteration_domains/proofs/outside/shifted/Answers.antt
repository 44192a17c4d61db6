use Rattle.scop_syntax.proofs.Common.{◌≡◌, ◌+◌, ◌*◌, ◌^◌, ◌≤◌, ℤ, ap, subst, sym, ◌∙◌, rules, arith, FitsSigned}
use Rattle.scop_syntax.proofs.Common.{unsigned_abs, w128, to_z-of_z, length-zeros}
use Rattle.integer_sets.specs.Parts.{variables_of}
use Rattle.iteration_domains.specs.Sizes.{form_size}
use Rattle.iteration_domains.proofs.Sizes.{size-zeros}
use Rattle.iteration_domains.proofs.outside.shifted.Goals as goal

pub plus_multiple-requires-clause-sized : goal.plus_multiple-requires-clause-sized
plus_multiple-requires-clause-sized c =
    sym (ap variables_of c.in_ok-whole.ensures ∙ (length-zeros c.variables.result ∙ c.variables.ensures))

pub plus_multiple-requires-clause-small : goal.plus_multiple-requires-clause-small
plus_multiple-requires-clause-small c =
    let k = c.args.factor in
    let fits : FitsSigned w128 k = search rules in
    let within : FitsSigned w128 c.args.constant = search rules in
    let z = size-zeros c.variables.result in
    let size : form_size c.in_ok-whole.whole ≡ unsigned_abs c.args.constant =
    ap form_size (simp to_z-of_z at c.in_ok-whole.ensures) ∙ omega arith in
    let small = c.requires in
    subst (λ (m : ℤ). form_size c.in_ok-whole.whole + unsigned_abs m * form_size c.args.form.now ≤ 2 ^ 100)
    (sym (to_z-of_z w128 k fits)) (omega arith)
