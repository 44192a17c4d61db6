use Rattle.tableau_rows.proofs.KeptSolutions.{pivot_keeps_tableau, pivot_keeps_solutions}
use Rattle.tableau_rows.proofs.laws.pivots_keep_the_solutions.Goals as goal

pub returns : goal.returns
returns c = record { tableau = pivot_keeps_tableau; solutions = pivot_keeps_solutions }
