use Rattle.whole_numbers.proofs.Common.{rules}
use Rattle.wide_math.specs.Checked.{cross_of}
use Rattle.tableau_rows.specs.Moves.{crossed_run}
use Rattle.checked_tableau.proofs.rows.cross_row.Goals as goal

pub returns : goal.returns
unfolding crossed_run
returns c =
    let fits_a = c.ranges.a in
    let fits_b = c.ranges.b in
    c.zip_in_place.ensures (λ x y. cross_of x c.args.a c.args.b y) (λ x y r fits_x fits_y gave. search rules)
