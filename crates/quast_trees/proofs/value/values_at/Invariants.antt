use Rattle.affine_forms.specs.Runs.{value_run}
use Rattle.quast_trees.proofs.ListRuns.{EachSoFar}
use Rattle.quast_trees.proofs.value.values_at.Given as goal

abbrev pub invariant-loop-form : goal.invariant-loop-form
invariant-loop-form l = EachSoFar (λ f. value_run f l.point) l.forms l.form-index l.values.items
