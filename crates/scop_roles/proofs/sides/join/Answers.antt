use Rattle.scop_syntax.proofs.Common.{◌≡◌, true, inl, inr, sym, ◌∙◌}
use Rattle.scop_roles.specs.Forms.{is_sum_or_product}
use Rattle.scop_roles.proofs.NodeForms.{joined_other, joined_names, joined_missing, joined_form, within_limits}
use Rattle.scop_roles.proofs.sides.join.Goals as goal

pub returns-then-not-is_sum_or_product-clause-joined :
    goal.returns-then-not-is_sum_or_product-clause-joined
returns-then-not-is_sum_or_product-clause-joined c f g at h i =
    rw c.refused.ensures
    (joined_other c.args.entries c.args.op f g at (sym c.is_sum_or_product.ensures ∙ c.if-not-is_sum_or_product.true))

pub returns-then-multiplies_names-clause-joined : goal.returns-then-multiplies_names-clause-joined
returns-then-multiplies_names-clause-joined c f g at h i =
    let sum : is_sum_or_product c.args.op ≡ true = sym c.is_sum_or_product.ensures ∙ c.if-not-is_sum_or_product.false in
    rw c.refused-then-multiplies_names.ensures
    (joined_names c.args.entries c.args.op f g at c.args.left.now c.args.right.now h i sum
    (sym c.multiplies_names.ensures ∙ c.if-multiplies_names.true))

pub returns-in-None-clause-joined : goal.returns-in-None-clause-joined
returns-in-None-clause-joined c f g at h i =
    let sum : is_sum_or_product c.args.op ≡ true = sym c.is_sum_or_product.ensures ∙ c.if-not-is_sum_or_product.false in
    rw c.refused-in-None.ensures
    (joined_missing c.args.entries c.args.op f g at c.args.left.now c.args.right.now h i sum (inl c.in-None.is))

pub returns-in-None-form-clause-joined : goal.returns-in-None-form-clause-joined
returns-in-None-form-clause-joined c f g at h i =
    let sum : is_sum_or_product c.args.op ≡ true = sym c.is_sum_or_product.ensures ∙ c.if-not-is_sum_or_product.false in
    rw c.refused-in-None-form.ensures
    (joined_missing c.args.entries c.args.op f g at c.args.left.now c.args.right.now h i sum (inr c.in-None-form.is))

pub returns-clause-joined : goal.returns-clause-joined
returns-clause-joined c f g at h i =
    let sum : is_sum_or_product c.args.op ≡ true = sym c.is_sum_or_product.ensures ∙ c.if-not-is_sum_or_product.false in
    joined_form c.args.entries c.args.op f g at c.args.left.now c.args.right.now c.in-Some.form c.in-Some-form.form
    c.in_ok-form.form c.within.result h i sum (sym c.multiplies_names.ensures ∙ c.if-multiplies_names.false)
    c.in-Some.is c.in-Some-form.is c.in_ok-form.ensures.form c.within.ensures

pub returns-clause-limits : goal.returns-clause-limits
returns-clause-limits c =
    within_limits c.args.entries c.in_ok-form.form c.within.result c.in_ok-form.ensures.entries c.within.ensures
