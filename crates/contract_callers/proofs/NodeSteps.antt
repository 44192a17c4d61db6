-- What the steps of the worked nodes give.
use Rattle.scop_syntax.proofs.Common.{◌≡◌, refl, pos, Err, Ok}
use Rattle.whole_numbers.specs.Content.{gcd_of}
use Rattle.wide_math.specs.Checked.{checked, cross_of}
use Rattle.tableau_rows.specs.Moves.{crossed_run, cut_run, lowest_row, pivot_run, row_run}
use Rattle.tableau_rows.specs.Run.{next, question, spent}
use Rattle.lexmin_runs.specs.Nodes.{above_run, at_least_run, binds, cut, ends, goes, opposite_run, pivot, split, splits}
use Rattle.lexmin_runs.specs.Nodes.{step, under_run, with_rows}
use Rattle.contract_callers.specs.Halves.{above, at_zero, bound, first, given, opposite, pivoted, solved, zero_leaf}

-- p - 1 is asked for in one move, the split is one more
pub parts : step 1 2 first ≡ Ok (splits opposite at_zero above, 0)
unfolding checked cross_of crossed_run gcd_of lowest_row next opposite_run pivot_run question row_run step
parts = refl

-- the question of the second row shows that it is nowhere below 0
pub ended : step 1 1 at_zero ≡ Ok (ends zero_leaf, 0)
unfolding checked cross_of crossed_run gcd_of lowest_row next opposite_run pivot_run question row_run step
ended = refl

-- the context, two questions and the pivot
pub goes_on : step 1 4 above ≡ Ok (goes solved, 0)
unfolding checked cross_of crossed_run gcd_of lowest_row next opposite_run pivot_run question row_run step
goes_on = refl

-- two questions and the cut
pub binds_one : step 1 3 solved ≡ Ok (binds given (pos 2) bound, 0)
unfolding above_run at_least_run checked cross_of crossed_run cut_run gcd_of lowest_row next opposite_run pivot_run
    question row_run step under_run
binds_one = refl

-- the first question wants a move
pub stopped : step 1 0 first ≡ Err spent
unfolding next opposite_run checked question step
stopped = refl

-- a pivot, a cut and a split alone
pub pivots : pivot 1 1 first 1 ≡ Ok (goes (with_rows first pivoted), 0)
unfolding checked cross_of crossed_run gcd_of lowest_row pivot_run row_run
pivots = refl

pub cuts : cut 1 1 solved 0 ≡ Ok (binds given (pos 2) bound, 0)
unfolding at_least_run checked cut_run gcd_of lowest_row under_run
cuts = refl

pub halves : split 1 first opposite ≡ Ok (splits opposite at_zero above, 0)
unfolding checked opposite_run
halves = refl
