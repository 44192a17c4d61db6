use Rattle.scop_syntax.proofs.Common.{rules, ◌≡◌, ◌+◌, IfOk, IfOk-weaker}
use Rattle.std.specs.Prelude.{option_map}
use Rattle.c_printer.specs.Forms.{spread}
use Rattle.c_printer.specs.steps.Reading.{form_from}
use Rattle.c_printer.specs.steps.View.{form_in}
use Rattle.c_printer.proofs.NarrowNumbers.{turn_by}
use Rattle.c_printer.proofs.read_forms.turn_of.Goals as goal

pub returns : goal.returns
returns c =
    let a = c.args in
    let head = a.head.now in
    let rest = a.rest.now in
    let starts : c.deref-2.result.now ≡ spread a.parameters a.loops head.first.coefficients = search rules in
    let count : c.in-Some.count ≡ a.parameters + a.loops = search rules in
    let made : IfOk c.form_from.result (λ r. form_in r
    ≡ form_from a.parameters (option_map (λ v. v.items) c.in_ok-turns.turns) c.quotient-turn.result rest) =
    search rules in
    IfOk-weaker c.form_from.result _ _ (λ r is form read last. turn_by a.parameters a.loops c.in-Some.count head _ _ _
    a.constant _ c.deref-2.result.now a.coefficients.now rest _ c.quotient-turn.result (form_in r) form
    c.in_ok-turns.ensures c.quotient-turn.ensures is count (search rules) (search rules) (search rules) starts
    (search rules) read last) made
