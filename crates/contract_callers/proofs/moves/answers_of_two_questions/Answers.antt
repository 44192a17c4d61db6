use Rattle.scop_syntax.proofs.Common.{[], ◌∷◌, pos, negsuc, refl, ◌≡◌, Ok, form_of}
use Rattle.whole_numbers.specs.Content.{gcd_of}
use Rattle.wide_math.specs.Checked.{checked, cross_of}
use Rattle.tableau_rows.specs.Moves.{crossed_run, cut_run, lowest_row, pivot_run, row_run}
use Rattle.tableau_rows.specs.Problem.{problem_of}
use Rattle.tableau_rows.specs.Run.{next, none, point, question}
use Rattle.contract_callers.proofs.moves.answers_of_two_questions.Goals as goal

-- the least point is found in a pivot, a cut and a pivot
found : question 3 (problem_of 1 (form_of (pos 2 ∷ []) (negsuc 2) ∷ [])) ≡ Ok (point (pos 2 ∷ []), 0)
unfolding checked cross_of crossed_run cut_run gcd_of lowest_row next pivot_run question row_run
found = refl

-- without a move there is none
none_there : question 0 (problem_of 1 (form_of (negsuc 0 ∷ []) (negsuc 0) ∷ [])) ≡ Ok (none, 0)
unfolding next question
none_there = refl

pub returns-clause-least : goal.returns-clause-least
returns-clause-least c =
    c.questions_are_answered_right.ensures 3 1 (form_of (pos 2 ∷ []) (negsuc 2) ∷ []) (point (pos 2 ∷ [])) 0 (refl, tt)
    found

pub returns-clause-none : goal.returns-clause-none
returns-clause-none c =
    c.questions_are_answered_right.ensures 0 1 (form_of (negsuc 0 ∷ []) (negsuc 0) ∷ []) none 0 (refl, tt) none_there
