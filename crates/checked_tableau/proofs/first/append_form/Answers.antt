use Rattle.whole_numbers.proofs.Common.{rules, ◌∙◌, ◌++◌, ◌∷◌, [], ℤ, ap, FitsSigned, w128, to_z-of_z}
use Rattle.checked_tableau.proofs.Beginnings.{form_written}
use Rattle.checked_tableau.proofs.first.append_form.Goals as goal

pub returns : goal.returns
returns c =
    let b = c.extend_from_slice.new.self.items in
    let fits : FitsSigned w128 c.constant.result = search rules in
    let third = simp to_z-of_z at c.in-Ok-push.ensures.items in
    form_written c.args.unknowns c.args.form.now c.coefficients-coefficients.result.now c.args.cells.now.items
    c.push.new.self.items b c.push-2.new.self.items c.extend_from_slice-2.new.self.items c.extend_from_slice-2.result
    c.coefficients-coefficients.ensures c.in-Ok.ensures.items c.in-Ok-extend_from_slice.ensures.items
    (third ∙ ap (λ (z : ℤ). b ++ z ∷ []) c.constant.ensures) c.extend_from_slice-2.ensures.items
