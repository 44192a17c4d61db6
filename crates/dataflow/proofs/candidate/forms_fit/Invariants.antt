use Rattle.dataflow.proofs.Common.{◌≡◌, drop, leaf_limit, forms_fit}
use Rattle.dataflow.proofs.candidate.forms_fit.Given as goal

abbrev pub invariant-loop-form : goal.invariant-loop-form
invariant-loop-form l = forms_fit leaf_limit (drop l.form-index l.forms) ≡ forms_fit leaf_limit l.forms
