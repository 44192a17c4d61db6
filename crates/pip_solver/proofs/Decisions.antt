-- A decision of emptiness is the run's.
use Rattle.whole_numbers.proofs.Common.{◌≡◌, ℕ, Bool, not, List, ◌++◌, length, refl, subst, ap, sym, ◌∙◌, arith, inl}
use Rattle.whole_numbers.proofs.Common.{inr, Result, Ok, Err, All, zeros, length-zeros, Affine}
use Rattle.std.proofs.lemmas.List.{append-nil}
use Rattle.wide_math.specs.declared.Wide.{Wide}
use Rattle.wide_math.specs.Checked.{◌>>=◌}
use Rattle.integer_sets.specs.Constraints.{Constraints, IsSized, variables_in}
use Rattle.tableau_rows.specs.Problem.{problem_of, Speaks}
use Rattle.tableau_rows.specs.Run.{point, none, wide, Outcome, question}
use Rattle.checked_tableau.specs.Nodes.{Counted, formed, answered, ask}
use Rattle.checked_tableau.specs.Emptiness.{equality_rows_run, bound_rows, posed_run, emptied, empty_run}
use Rattle.checked_tableau.proofs.Emptiness.{posed_points}
use Rattle.checked_tableau.proofs.AddedParameters.{all_speak}
use Rattle.checked_tableau.specs.declared.problem.Problem.{Problem}
use Rattle.pip_solver.specs.declared.stop.Stop.TheVariants as solver
use Rattle.pip_solver.specs.Promises.{Empties, IsPosed, IsUnposed, FormedUntil}
use Rattle.pip_solver.specs.steps.Promises.{Decides, IsProblem, decided}
use Rattle.pip_solver.proofs.PosedRows.{until-stops}

-- the answer turned
abbrev pub turned : Counted Bool → Counted Bool
turned (Ok both) = Ok (not both.0, both.1)
turned (Err stop) = Err stop

emptied_is : (o : Outcome) → emptied o ≡ turned (answered o)
emptied_is (Ok (point x, left)) = refl
emptied_is (Ok (none, left)) = refl
emptied_is (Err stop) = refl

pub decided_is : (budget n : ℕ) (rows : List Affine) → decided budget n rows ≡ turned (ask budget n rows)
decided_is budget n rows = emptied_is (question budget (problem_of n rows))

-- the posed rows, of which those of the equalities come first
pub posed_parts : (s : Constraints) (es own : List Affine) → equality_rows_run s.equalities ≡ Ok es
    → own ≡ s.rows ++ bound_rows (variables_in s) s.dimensions s.parameters → posed_run s ≡ Ok (es ++ own)
unfolding posed_run
posed_parts s es own formed is =
    ap (λ (q : Result (List Affine) Wide). q >>= λ es. Ok
    (es ++ (s.rows ++ bound_rows (variables_in s) s.dimensions s.parameters))) formed
    ∙ ap (λ (fs : List Affine). Ok (es ++ fs)) (sym is)

-- without parameters there are no bounds
pub posed_flat : (s : Constraints) (es own : List Affine) → s.parameters ≡ 0 → own ≡ s.rows
    → equality_rows_run s.equalities ≡ Ok es → posed_run s ≡ Ok (es ++ own)
posed_flat s es own flat is formed =
    posed_parts s es own formed
    (is ∙ sym (append-nil s.rows)
    ∙ sym (ap (λ (k : ℕ). s.rows ++ bound_rows (variables_in s) s.dimensions k) flat))

-- forms in the code's slice, and their number of variables in the code's number
pub speaks_at : (m k : ℕ) (fs gs : List Affine) → Speaks m fs → gs ≡ fs → k ≡ m
    → All (λ f. length f.coefficients ≡ k) gs
speaks_at m k fs gs speaks is same =
    subst (λ (hs : List Affine). All (λ f. length f.coefficients ≡ k) hs) (sym is)
    (subst (λ (n : ℕ). All (λ f. length f.coefficients ≡ n) fs) (sym same) (all_speak m fs speaks))

pub posed_sized : (s : Constraints) (n : ℕ) (rows : List Affine) → IsSized (variables_in s) s.equalities s.rows
    → posed_run s ≡ Ok rows → n ≡ variables_in s → All (λ f. length f.coefficients ≡ n) rows
posed_sized s n rows sized posed same =
    subst (λ (k : ℕ). All (λ f. length f.coefficients ≡ k) rows) (sym same)
    (all_speak (variables_in s) rows
    (posed_points s rows (zeros s.dimensions) (zeros s.parameters) sized posed (length-zeros s.dimensions)
    (length-zeros s.parameters)).0)

-- the decision of the posed rows is the system's
empty_rows : (budget n : ℕ) (s : Constraints) (rows : List Affine) → posed_run s ≡ Ok rows → n ≡ variables_in s
    → empty_run budget s ≡ decided budget n rows
unfolding empty_run
empty_rows budget n s rows posed same =
    ap (λ (q : Result (List Affine) Wide). formed budget q
    (λ rows. emptied (question budget (problem_of (variables_in s) rows)))) posed
    ∙ ap (λ (k : ℕ). emptied (question budget (problem_of k rows))) (sym same)

posed_of : (s : Constraints) (n : ℕ) (rows : List Affine) (told : Problem) → posed_run s ≡ Ok rows
    → n ≡ variables_in s → IsProblem n rows told
    → IsPosed s told
posed_of s n rows told posed same is = record {
  unknowns = is.unknowns ∙ same;
  parameters = is.parameters;
  rows = posed ∙ ap (λ (fs : List Affine). Ok fs) (sym is.rows);
  context = is.context;
}

pub empties_rows : (budget n : ℕ) (s : Constraints) (rows : List Affine) (result : Result Bool solver.the_data)
    → posed_run s ≡ Ok rows → n ≡ variables_in s → Decides result budget n rows
    → Empties result budget s
empties_rows budget n s rows (Ok empty) posed same decides =
    (decides.0, empty_rows budget n s rows posed same ∙ decides.1)
empties_rows budget n s rows (Err (solver.Wide told moves)) posed same decides = (
  decides.0,
  decides.1,
  empty_rows budget n s rows posed same ∙ decides.2,
  decides.3,
  inl (posed_of s n rows told posed same decides.4),
)
empties_rows budget n s rows (Err (solver.Spent told moves)) posed same decides = (
  empty_rows budget n s rows posed same ∙ decides.0,
  decides.1,
  posed_of s n rows told posed same decides.2,
)
empties_rows budget n s rows (Err solver.NoMemory) posed same decides = tt

-- a number that is too wide before the problem is posed
pub unposed : (s : Constraints) (w : Wide) (rows : List Affine) → FormedUntil w s.equalities rows
    → posed_run s ≡ Err w
unfolding posed_run
unposed s w rows until =
    ap (λ (q : Result (List Affine) Wide). q >>= λ es. Ok
    (es ++ (s.rows ++ bound_rows (variables_in s) s.dimensions s.parameters))) (until-stops w s.equalities rows until)

empty_unposed : (budget : ℕ) (s : Constraints) (w : Wide) → posed_run s ≡ Err w
    → empty_run budget s ≡ Err (wide w budget)
unfolding empty_run
empty_unposed budget s w failed =
    ap (λ (q : Result (List Affine) Wide). formed budget q
    (λ rows. emptied (question budget (problem_of (variables_in s) rows)))) failed

-- a stop before any move
pub unposed_stops : (budget : ℕ) (s : Constraints) (stop : solver.the_data) → IsUnposed stop s
    → Empties (Err stop) budget s
unposed_stops budget s (solver.Wide told moves) h =
    let none = h.3 in (h.0, budget, empty_unposed budget s h.0 h.1, omega arith, inr (h.1, h.2, h.3))
unposed_stops budget s (solver.Spent told moves) h = absurd h
unposed_stops budget s solver.NoMemory h = tt
