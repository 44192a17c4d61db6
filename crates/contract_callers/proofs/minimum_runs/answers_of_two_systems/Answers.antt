use Rattle.scop_syntax.proofs.Common.{[], ◌∷◌, ◌≡◌, refl, pos, negsuc, ℤ, Ok, true, false, All-cons, All-nil, form_of}
use Rattle.whole_numbers.specs.Content.{gcd_of}
use Rattle.wide_math.specs.Checked.{checked, cross_of}
use Rattle.affine_forms.specs.Parts.{variables_of}
use Rattle.integer_sets.specs.Constraints.{Constraints, IsSized, system_of}
use Rattle.tableau_rows.specs.Moves.{crossed_run, cut_run, lowest_row, pivot_run, row_run}
use Rattle.tableau_rows.specs.Run.{next, question}
use Rattle.lexmin_runs.specs.Emptiness.{empty_run, negated_run, posed_run}
use Rattle.contract_callers.proofs.minimum_runs.answers_of_two_systems.Goals as goal

-- 2 x + c = 0
abbrev system : ℤ → Constraints
system c = system_of 1 0 (form_of (pos 2 ∷ []) c ∷ []) []

sized : (c : ℤ) → IsSized 1 (form_of (pos 2 ∷ []) c ∷ []) []
sized c =
    record {
      equalities_sized =
          All-cons (λ f. variables_of f ≡ 1) (form_of (pos 2 ∷ []) c) [] refl (All-nil (λ f. variables_of f ≡ 1));
      rows_sized = All-nil (λ f. variables_of f ≡ 1);
    }

-- the first takes a pivot, a cut and a pivot, the second one pivot
none_found : empty_run 3 (system (negsuc 2)) ≡ Ok (true, 0)
unfolding checked cross_of crossed_run cut_run empty_run gcd_of lowest_row negated_run next pivot_run posed_run question
    row_run
none_found = refl

one_found : empty_run 1 (system (negsuc 3)) ≡ Ok (false, 0)
unfolding checked cross_of crossed_run cut_run empty_run gcd_of lowest_row negated_run next pivot_run posed_run question
    row_run
one_found = refl

pub returns-clause-empty : goal.returns-clause-empty
returns-clause-empty c = λ x p is.
    c.emptiness_is_answered_right.ensures.empty 3 (system (negsuc 2)) 0 (sized (negsuc 2)) none_found x p is

pub returns-clause-point : goal.returns-clause-point
returns-clause-point c =
    c.emptiness_is_answered_right.ensures.point 1 (system (negsuc 3)) 0 (sized (negsuc 3)) one_found
