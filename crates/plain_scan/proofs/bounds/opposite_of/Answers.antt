use Rattle.scop_syntax.proofs.Common.{rules, ◌≡◌, ◌∙◌, ap, FitsSigned, neg_ℤ, map, w64, to_z-of_z}
use Rattle.plain_scan.proofs.CodeBounds.{opposite_end}
use Rattle.plain_scan.proofs.bounds.opposite_of.Goals as goal

pub returns : goal.returns
returns c =
    let f = c.args.form.now in
    let z = c.opposite_number.result in
    let fits : FitsSigned w64 z = search rules in
    let last : z ≡ neg_ℤ f.constant = search rules in
    simp to_z-of_z (opposite_end f c.in_ok-coefficients.coefficients.items z
    (c.in_ok-coefficients.ensures ∙ ap (map neg_ℤ) c.coefficients.ensures) last)
