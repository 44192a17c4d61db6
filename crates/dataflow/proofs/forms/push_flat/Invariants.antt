use Rattle.dataflow.proofs.Common.{◌≡◌, ◌++◌, map, drop, composed, flat}
use Rattle.dataflow.proofs.forms.push_flat.Given as goal

abbrev pub invariant-loop-form : goal.invariant-loop-form
invariant-loop-form l =
    l.out.items ++ flat (map (λ f. composed f l.inner l.of) (drop l.form-index l.forms))
    ≡ l.fn.out.items ++ flat (map (λ f. composed f l.inner l.of) l.forms)
