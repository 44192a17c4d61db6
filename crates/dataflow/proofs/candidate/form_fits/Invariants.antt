use Rattle.dataflow.proofs.Common.{◌≡◌, drop, leaf_limit, numbers_fit}
use Rattle.dataflow.proofs.candidate.form_fits.Given as goal

abbrev pub invariant-loop-coefficient : goal.invariant-loop-coefficient
invariant-loop-coefficient l =
    numbers_fit leaf_limit (drop l.coefficient-index l.coefficient-items)
    ≡ numbers_fit leaf_limit l.coefficient-items
