use Rattle.scop_syntax.proofs.Common.{rules, ◌≡◌, map, IfOk, FitsSigned, w128, None, Some, Affine}
use Rattle.scop_syntax.proofs.Common.{form_of, IfOk-weaker}
use Rattle.std.specs.Prelude.{option_map}
use Rattle.scop_lexer.specs.Bytes.{Text}
use Rattle.form_text.specs.Reading.{read_form}
use Rattle.form_text.specs.View.{nearest, nearest_form}
use Rattle.c_printer.specs.Reading.{narrowed, read_turn, turn_of}
use Rattle.c_printer.specs.steps.View.{form_in}
use Rattle.c_printer.specs.steps.Reading.{turn_from}
use Rattle.c_printer.proofs.NarrowNumbers.{nothing_read, turn_told}
use Rattle.c_printer.proofs.read_forms.read_turn.Goals as goal

pub returns-in-Ok-Some : goal.returns-in-Ok-Some
unfolding read_turn
returns-in-Ok-Some c =
    let a = c.args in
    let whole = read_form (map (λ n. n.items) a.names.now) a.text.now in
    let k = c.in-Ok-Some.constant in
    let cs = c.in-Ok-Some.coefficients.items in
    let rest = c.in-Ok-Some.rest.now in
    let fit : FitsSigned w128 k = search rules in
    let read : Some (form_of cs k, rest) ≡ option_map nearest_form whole = search rules in
    let items : c.deref.result.now ≡ cs = search rules in
    let told : IfOk c.turn_of.result (λ r. (form : Affine) → c.deref.result.now ≡ map nearest form.coefficients
    → k ≡ nearest form.constant → form_in r ≡ turn_from a.parameters a.loops a.head.now form rest) = search rules in
    IfOk-weaker c.turn_of.result _ _ (λ r each. turn_told a.parameters a.loops a.head.now whole (form_in r) cs
    c.deref.result.now k rest read items each) told

pub returns-in-Ok-None : goal.returns-in-Ok-None
unfolding read_turn
returns-in-Ok-None c =
    let a = c.args in
    let whole = read_form (map (λ n. n.items) a.names.now) a.text.now in
    let none : None ≡ option_map nearest_form whole = search rules in
    nothing_read whole (λ (r : Affine × Text). narrowed (turn_of a.parameters a.loops a.head.now r.0) r.1) none
