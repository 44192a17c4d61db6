use Rattle.affine_forms.specs.Runs.{compose_run}
use Rattle.quast_trees.proofs.ListRuns.{EachSoFar}
use Rattle.quast_trees.proofs.map.composed.Given as goal

abbrev pub invariant-loop-form : goal.invariant-loop-form
invariant-loop-form l = EachSoFar (λ f. compose_run f l.inner l.variables) l.forms l.form-index l.composed.items
