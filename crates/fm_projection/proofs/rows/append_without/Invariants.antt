use Rattle.whole_numbers.proofs.Common.{◌≡◌, ◌++◌, drop, map}
use Rattle.whole_numbers.specs.Content.{lowest_of_form}
use Rattle.fractions.specs.Elimination.{chosen, is_zero}
use Rattle.fm_projection.proofs.rows.append_without.Given as goal

abbrev pub invariant-loop-form : goal.invariant-loop-form
invariant-loop-form l =
    l.out.items ++ map lowest_of_form (chosen is_zero l.variable (drop l.form-index l.forms))
    ≡ l.fn.out.items ++ map lowest_of_form (chosen is_zero l.variable l.forms)
