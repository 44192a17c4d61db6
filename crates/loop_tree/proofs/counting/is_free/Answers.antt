use Rattle.scop_syntax.proofs.Common.{rules, ◌≡◌, ℤ, List, ◌∙◌, ap, drop, length, subst, take}
use Rattle.loop_tree.specs.steps.Chain.{values_in}
use Rattle.loop_tree.specs.Fits.{AreZeros}
use Rattle.loop_tree.proofs.counting.is_free.Goals as goal

pub returns : goal.returns
returns c = λ zeros.
    let p = length (values_in c.args.round.now) in
    let numbers : c.as_slice.result.now ≡ c.args.form.now.coefficients = search rules in
    let behind = c.behind.ensures ∙ ap (λ (ns : List ℤ). drop p ns) numbers in
    subst (λ (ns : List ℤ). AreZeros ns) (c.front_of.ensures ∙ ap (λ (ns : List ℤ). take c.args.inner ns) behind)
    (c.are_zeros.ensures zeros)
