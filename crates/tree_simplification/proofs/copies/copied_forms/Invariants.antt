use Rattle.scop_syntax.proofs.Common.{◌≡◌, ◌++◌, drop}
use Rattle.tree_simplification.proofs.copies.copied_forms.Given as goal

abbrev pub invariant-loop-form : goal.invariant-loop-form
invariant-loop-form l = l.out.items ++ drop l.form-index l.forms ≡ l.forms
