use Rattle.scop_syntax.proofs.Common.{◌≡◌, ◌++◌, length, drop}
use Rattle.loop_tree.specs.steps.Chain.{values_in}
use Rattle.loop_tree.specs.steps.Stepping.{steps_of}
use Rattle.loop_tree.proofs.passing.steps_within.Given as goal

abbrev pub invariant-loop-form : goal.invariant-loop-form
invariant-loop-form l =
    (length l.steps.items ≡ l.form-index)
    × (l.steps.items ++ steps_of (drop l.form-index l.forms) (length (values_in l.outer))
    ≡ steps_of l.forms (length (values_in l.outer)))
