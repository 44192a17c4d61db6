use Rattle.whole_numbers.proofs.Common.{◌≡◌, [], drop}
use Rattle.fm_projection.specs.Condensed.{with_cleared}
use Rattle.fm_projection.proofs.condensing.own_rows.Given as goal

abbrev pub invariant-loop-form : goal.invariant-loop-form
invariant-loop-form l =
    with_cleared l.equalities l.out.items (drop l.form-index l.forms) ≡ with_cleared l.equalities [] l.forms
