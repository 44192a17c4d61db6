use Rattle.std.proofs.Common.{◌≡◌, drop}
use Rattle.affine_forms.specs.Parts.{variables_of}
use Rattle.affine_forms.specs.Runs.{plus_combination_run}
use Rattle.affine_forms.proofs.form.Form.add_combination.Given as goal

abbrev pub invariant-loop-at : goal.invariant-loop-at
invariant-loop-at l = record {
  rest : plus_combination_run l.self (drop l.at l.factors) (drop l.at l.forms)
      ≡ plus_combination_run l.fn.self l.factors l.forms;
  width : variables_of l.self ≡ variables_of l.fn.self;
}
