use Rattle.conflict_deps.proofs.Common.{◌≡◌, ◌++◌, map, drop, target_form}
use Rattle.conflict_deps.proofs.forms.push_targets.Given as goal

abbrev pub invariant-loop-form : goal.invariant-loop-form
invariant-loop-form l =
    l.out.items ++ map (target_form l.loops) (drop l.form-index l.forms)
    ≡ l.fn.out.items ++ map (target_form l.loops) l.forms
