use Rattle.std.proofs.Common.{rules, ◌≡◌, ◌∙◌, sym, ap, ap₂, arith, ℕ, ℤ, pos, List, FitsSigned, unsigned_abs, length}
use Rattle.std.specs.Int.{w128}
use Rattle.std.proofs.lemmas.Int.{to_z-of_z}
use Rattle.wide_math.specs.Affine.{form_of}
use Rattle.wide_math.specs.Floor.{floor, floors}
use Rattle.wide_math.specs.Content.{content_from, content_of_form, lowest_of_form}
use Rattle.wide_math.proofs.Contents.{gcd_of_nothing}
use Rattle.wide_math.proofs.Lowest.{lowest_form_stays}
use Rattle.affine_forms.proofs.Steps.{refill_same}
use Rattle.affine_forms.proofs.form.Form.lower.Goals as goal

-- the code's start with the constant's size is the definition's start with 0 and the constant
started : (c : ℤ) (xs : List ℤ) → content_from (unsigned_abs c) xs ≡ content_of_form (form_of xs c)
started c xs = ap (λ (g : ℕ). content_from g xs) (gcd_of_nothing (unsigned_abs c))

pub returns-then-content-gt1 : goal.returns-then-content-gt1
unfolding lowest_of_form
returns-then-content-gt1 c =
    let f = c.args.self.now in
    let fits : FitsSigned w128 c.self.inside.constant = search rules in
    let fits_q : FitsSigned w128 c.quotient-self-inside.result = search rules in
    let size = simp to_z-of_z at c.unsigned_abs.ensures.value in
    let from : c.content-content.result ≡ content_from (unsigned_abs f.constant) f.coefficients = search rules in
    let is : c.content-content.result ≡ content_of_form f = from ∙ started f.constant f.coefficients in
    let row : c.divide_row.new.row ≡ floors (pos (content_of_form f)) f.coefficients = search rules in
    let given = simp to_z-of_z at c.quotient-self-inside.ensures in
    let last : c.quotient-self-inside.result ≡ floor f.constant (pos (content_of_form f)) = search rules in
    let row_is = c.divide_row.new.row in
    let sized : length row_is ≡ length c.self.inside.coefficients.items = search rules in
    let filled = refill_same c.self.inside.coefficients.items row_is sized in
    simp to_z-of_z (ap₂ (λ (xs : List ℤ) (x : ℤ). form_of xs x) (filled ∙ row) last)

pub returns-else-content-gt1 : goal.returns-else-content-gt1
returns-else-content-gt1 c =
    let f = c.args.self.now in
    let fits : FitsSigned w128 c.self.inside.constant = search rules in
    let size = simp to_z-of_z at c.unsigned_abs.ensures.value in
    let from : c.content-content.result ≡ content_from (unsigned_abs f.constant) f.coefficients = search rules in
    let is : c.content-content.result ≡ content_of_form f = from ∙ started f.constant f.coefficients in
    sym (lowest_form_stays f (omega (arith, is, c.if-content-gt1.false)))
