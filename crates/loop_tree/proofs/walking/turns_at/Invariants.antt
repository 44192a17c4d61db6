use Rattle.scop_syntax.proofs.Common.{◌≡◌, ◌++◌, length, drop, values_of}
use Rattle.loop_tree.specs.steps.Chain.{values_at}
use Rattle.loop_tree.proofs.walking.turns_at.Given as goal

abbrev pub invariant-loop-form : goal.invariant-loop-form
invariant-loop-form l =
    (length l.turns.items ≡ l.form-index)
    × (l.turns.items ++ values_of (drop l.form-index l.forms) (values_at l.point ++ l.params)
    ≡ values_of l.forms (values_at l.point ++ l.params))
