use Rattle.scop_syntax.proofs.Common.{◌≡◌, ◌∙◌, ap₂, subst, List, IfOk, FitsSigned, w128, ℤ, Option, to_z-of_z, Affine}
use Rattle.scop_lexer.specs.Bytes.{Text}
use Rattle.c_printer.specs.steps.View.{form_in}
use Rattle.c_printer.specs.steps.Reading.{form_from, narrow}
use Rattle.c_printer.proofs.NarrowNumbers.{form_narrowed}
use Rattle.c_printer.proofs.read_forms.narrowed.Goals as goal

pub returns : goal.returns
returns c =
    let p = c.args.parameters in
    let rest = c.args.rest.now in
    let fit : FitsSigned w128 c.args.constant = c.ranges.constant in
    let constant : c.narrow.result ≡ narrow c.args.constant = simp to_z-of_z at c.narrow.ensures in
    subst (λ (o : Option (Affine × Text)). IfOk c.form_from.result (λ r. form_in r ≡ o))
    (ap₂ (λ (cs : Option (List ℤ)) (k : Option ℤ). form_from p cs k rest) c.in_ok-numbers.ensures constant
    ∙ form_narrowed p c.args.coefficients.now c.args.constant rest)
    c.form_from.ensures
