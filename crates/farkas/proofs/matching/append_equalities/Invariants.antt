use Rattle.whole_numbers.proofs.Common.{◌≡◌, drop}
use Rattle.farkas.specs.Matching.{equality_columns_run}
use Rattle.farkas.specs.steps.Questions.{with_more}
use Rattle.farkas.proofs.matching.append_equalities.Given as goal

abbrev pub invariant-loop-form : goal.invariant-loop-form
invariant-loop-form l =
    with_more l.numbers.items (equality_columns_run l.entry (drop l.form-index l.equalities))
    ≡ with_more l.fn.numbers.items (equality_columns_run l.entry l.equalities)
