use Rattle.whole_numbers.proofs.Common.{◌≡◌, ◌++◌, drop, map}
use Rattle.whole_numbers.specs.Content.{lowest_of_form}
use Rattle.fm_projection.proofs.rows.append_lowest.Given as goal

abbrev pub invariant-loop-form : goal.invariant-loop-form
invariant-loop-form l =
    l.out.items ++ map lowest_of_form (drop l.form-index l.forms) ≡ l.fn.out.items ++ map lowest_of_form l.forms
