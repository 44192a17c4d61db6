use Rattle.scop_syntax.proofs.Common.{rules, ◌≡◌, ◌∙◌, ap, map, subst, List, IfOk, FitsSigned, w128, ℤ, Option, None}
use Rattle.scop_syntax.proofs.Common.{Some, Affine, form_of}
use Rattle.std.specs.Prelude.{option_map}
use Rattle.scop_lexer.specs.Bytes.{Text}
use Rattle.form_text.specs.Reading.{read_form, when}
use Rattle.form_text.specs.View.{nearest_form}
use Rattle.c_printer.specs.Reading.{narrowed, read_tree_form, turned_back}
use Rattle.c_printer.specs.steps.View.{form_in}
use Rattle.c_printer.proofs.NarrowNumbers.{form_nearest, nothing_read}
use Rattle.c_printer.proofs.read_forms.read_tree_form.Goals as goal

pub returns-in-Ok-Some : goal.returns-in-Ok-Some
unfolding read_tree_form
returns-in-Ok-Some c =
    let a = c.args in
    let p = a.parameters in
    let whole = read_form (map (λ n. n.items) a.names.now) a.text.now in
    let k = c.in-Ok-Some.constant in
    let cs = c.in-Ok-Some.coefficients.items in
    let rest = c.in-Ok-Some.rest.now in
    let fit : FitsSigned w128 k = search rules in
    let read : Some (form_of cs k, rest) ≡ option_map nearest_form whole = search rules in
    let items : c.deref.result.now ≡ cs = search rules in
    let told : IfOk c.narrowed.result (λ r. form_in r
    ≡ narrowed (form_of (turned_back p c.deref.result.now) k) rest) = search rules in
    subst (λ (o : Option (Affine × Text)). IfOk c.narrowed.result (λ r. form_in r ≡ o))
    (ap (λ (xs : List ℤ). narrowed (form_of (turned_back p xs) k) rest) items
    ∙ (ap (λ o. when o
    (λ (r : Affine × Text). narrowed (form_of (turned_back p r.0.coefficients) r.0.constant) r.1)) read
    ∙ form_nearest p whole)) told

pub returns-in-Ok-None : goal.returns-in-Ok-None
unfolding read_tree_form
returns-in-Ok-None c =
    let a = c.args in
    let whole = read_form (map (λ n. n.items) a.names.now) a.text.now in
    let none : None ≡ option_map nearest_form whole = search rules in
    nothing_read whole
    (λ (r : Affine × Text). narrowed (form_of (turned_back a.parameters r.0.coefficients) r.0.constant) r.1) none
