use Rattle.whole_numbers.proofs.Common.{rules}
use Rattle.checked_tableau.specs.Lines.{turned_run}
use Rattle.checked_tableau.proofs.cuts.leave_turned_remainders.Goals as goal

pub returns : goal.returns
returns c =
    let fits = c.ranges.divisor in
    c.map_in_place.ensures (turned_run c.args.divisor) (λ x r fits_x gave. search rules)
