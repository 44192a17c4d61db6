use Rattle.tableau_rows.proofs.FirstTableau.{first_tableau, first_solutions}
use Rattle.tableau_rows.proofs.laws.tableaus_begin_with_their_problem.Goals as goal

pub returns : goal.returns
returns c = record { tableau = first_tableau; solutions = first_solutions }
