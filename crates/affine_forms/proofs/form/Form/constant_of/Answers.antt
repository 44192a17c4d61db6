use Rattle.std.proofs.Common.{ℤ, List, Ok, ap, sym, ◌∙◌, rules}
use Rattle.std.proofs.lemmas.Int.{to_z-of_z}
use Rattle.wide_math.specs.Affine.{form_of}
use Rattle.wide_math.proofs.Dot.{replicate-zeros}
use Rattle.affine_forms.proofs.form.Form.constant_of.Goals as goal

pub returns-in-Ok-clause-form : goal.returns-in-Ok-clause-form
returns-in-Ok-clause-form c =
    let fits = c.ranges.constant in
    let items = c.in-Ok.ensures.items_if_clones_equal (search rules) in
    let zero = sym (items ∙ replicate-zeros c.args.variables) in
    simp to_z-of_z (ap (λ (cs : List ℤ). Ok (form_of cs c.args.constant)) zero)
