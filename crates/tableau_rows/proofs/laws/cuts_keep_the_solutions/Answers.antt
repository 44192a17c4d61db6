use Rattle.tableau_rows.proofs.KeptSolutions.{cut_keeps_tableau, cut_keeps_solutions}
use Rattle.tableau_rows.proofs.laws.cuts_keep_the_solutions.Goals as goal

pub returns : goal.returns
returns c = record { tableau = cut_keeps_tableau; solutions = cut_keeps_solutions }
