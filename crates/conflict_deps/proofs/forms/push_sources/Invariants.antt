use Rattle.conflict_deps.proofs.Common.{◌≡◌, ◌++◌, map, drop, source_form}
use Rattle.conflict_deps.proofs.forms.push_sources.Given as goal

abbrev pub invariant-loop-form : goal.invariant-loop-form
invariant-loop-form l =
    l.out.items ++ map (source_form l.loops l.others) (drop l.form-index l.forms)
    ≡ l.fn.out.items ++ map (source_form l.loops l.others) l.forms
