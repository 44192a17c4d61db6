use Rattle.quast_joins.proofs.Common.{◌≡◌, ◌++◌, map, drop, shifted_form}
use Rattle.quast_joins.proofs.forms.move_forms.Given as goal

abbrev pub invariant-loop-form : goal.invariant-loop-form
invariant-loop-form l =
    l.moved.items ++ map (shifted_form l.variables l.more) (drop l.form-index l.forms)
    ≡ map (shifted_form l.variables l.more) l.forms
