use Rattle.std.proofs.Common.{rules, ◌≡◌, ◌∙◌, sym, ap, FitsSigned}
use Rattle.wide_math.specs.Affine.{form_of}
use Rattle.std.specs.Int.{w128}
use Rattle.std.proofs.lemmas.Int.{to_z-of_z}
use Rattle.wide_math.specs.Lists.{zeros}
use Rattle.wide_math.proofs.Dot.{length-zeros}
use Rattle.affine_forms.specs.Parts.{variables_of}
use Rattle.affine_forms.specs.Runs.{compose_run}
use Rattle.affine_forms.proofs.Values.{compose_run-exact, compose_run-value, compose_run-variables}
use Rattle.affine_forms.proofs.form.Form.compose.Goals as goal

pub add_combination-requires-clause-forms : goal.add_combination-requires-clause-forms
add_combination-requires-clause-forms c k d inside =
    let fits : FitsSigned w128 c.self.inside.constant = search rules in
    let made = simp to_z-of_z at c.in-Ok.ensures.form in
    let sum_is : form_of (zeros c.args.variables) c.self.inside.constant ≡ c.in-Ok.sum = cc in
    c.requires.variables k d inside ∙ sym (length-zeros c.args.variables) ∙ ap variables_of sum_is

pub returns-in-Ok-add_combination-clause-entries : goal.returns-in-Ok-add_combination-clause-entries
unfolding compose_run
returns-in-Ok-add_combination-clause-entries c =
    let h = c.add_combination.new.self in
    let sized = c.requires.variables in
    compose_run-exact c.args.self.now c.args.inner.now c.args.variables h sized (search rules)

pub returns-in-Ok-add_combination-clause-size : goal.returns-in-Ok-add_combination-clause-size
unfolding compose_run
returns-in-Ok-add_combination-clause-size c =
    let h = c.add_combination.new.self in
    let sized = c.requires.variables in
    compose_run-variables c.args.self.now c.args.inner.now c.args.variables h sized (search rules)

pub returns-in-Ok-add_combination-clause-value : goal.returns-in-Ok-add_combination-clause-value
unfolding compose_run
returns-in-Ok-add_combination-clause-value c =
    let h = c.add_combination.new.self in
    let sized = c.requires.variables in
    compose_run-value c.args.self.now c.args.inner.now c.args.variables h sized (search rules)
