use Rattle.scop_syntax.proofs.Common.{◌≡◌, ℤ, List, length, set, rules, ap, ◌∙◌, subst, to_z, of_z, FitsSigned, IfOk}
use Rattle.scop_syntax.proofs.Common.{w128, to_z-of_z, form_of, zeros, replicate-zeros}
use Rattle.std.proofs.Math.ListN.{length-set}
use Rattle.integer_sets.proofs.FormSteps.{refill_same}
use Rattle.iteration_domains.proofs.forms.term_form.Goals as goal

pub returns : goal.returns
returns c =
    let n = c.args.variables in
    let at = c.args.at in
    let fits : FitsSigned w128 c.args.factor = search rules in
    let z = to_z w128 (of_z w128 c.args.factor) in
    let held : z ≡ c.args.factor = to_z-of_z w128 c.args.factor fits in
    let made = c.in_ok-coefficients.coefficients.items in
    let zero : made ≡ zeros n = c.in_ok-coefficients.ensures.items_if_clones_equal (search rules) ∙ replicate-zeros n in
    let term = set c.deref_mut.result.now at z in
    let sized : length term ≡ length made = length-set c.deref_mut.result.now at z
    ∙ ap (λ (xs : List ℤ). length xs) c.deref_mut.ensures.value in
    let now : c.as_slice.result.now ≡ set (zeros n) at c.args.factor =
    c.as_slice.ensures ∙ (refill_same made term sized
    ∙ (ap (λ (xs : List ℤ). set xs at z) (c.deref_mut.ensures.value ∙ zero) ∙ ap (set (zeros n) at) held)) in
    let within : FitsSigned w128 c.args.constant = search rules in
    let made_of : IfOk c.form_from.result (λ f. f ≡ form_of c.as_slice.result.now c.args.constant) =
    subst (λ (k : ℤ). IfOk c.form_from.result (λ f. f ≡ form_of c.as_slice.result.now k))
    (to_z-of_z w128 c.args.constant within) c.form_from.ensures in
    subst (λ (xs : List ℤ). IfOk c.form_from.result (λ f. f ≡ form_of xs c.args.constant)) now made_of
