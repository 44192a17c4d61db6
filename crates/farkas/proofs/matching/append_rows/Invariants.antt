use Rattle.whole_numbers.proofs.Common.{◌≡◌, drop}
use Rattle.farkas.specs.Matching.{row_columns_run}
use Rattle.farkas.specs.steps.Questions.{with_more}
use Rattle.farkas.proofs.matching.append_rows.Given as goal

abbrev pub invariant-loop-form : goal.invariant-loop-form
invariant-loop-form l =
    with_more l.numbers.items (row_columns_run l.entry (drop l.form-index l.rows))
    ≡ with_more l.fn.numbers.items (row_columns_run l.entry l.rows)
