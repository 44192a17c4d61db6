use Rattle.scop_syntax.proofs.Common.{rules, ◌≡◌, ◌∙◌, ◌+◌, ℕ, List, ℤ, pos, drop, get_or, length, ap, arith}
use Rattle.scop_syntax.proofs.Common.{FitsSigned, w64, to_z-of_z, get_or-drop}
use Rattle.loop_tree.specs.steps.Chain.{values_in}
use Rattle.loop_tree.proofs.passing.coefficient_within.Goals as goal

pub returns : goal.returns
returns c =
    let cs = c.args.form.now.coefficients in
    let n = length (values_in c.args.outer.now) in
    let fits : FitsSigned w64 c.first_of.result = search rules in
    let slice : c.as_slice.result.now ≡ cs = search rules in
    let rest : c.behind.result.now ≡ drop n cs = c.behind.ensures ∙ ap (λ (xs : List ℤ). drop n xs) slice in
    let at : n + 0 ≡ n = omega arith in
    to_z-of_z w64 c.first_of.result fits
    ∙ (c.first_of.ensures
    ∙ (ap (λ (xs : List ℤ). get_or xs 0 (pos 0)) rest
    ∙ (get_or-drop n cs 0 (pos 0) ∙ ap (λ (i : ℕ). get_or cs i (pos 0)) at)))
