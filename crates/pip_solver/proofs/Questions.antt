-- The questions of a node, as the code asks them; the first row of which a counted question's answer is yes
-- (`asked-yes`, `asked-more`, `asked-stops`).
use Rattle.whole_numbers.proofs.Common.{◌≡◌, ℕ, zero, suc, ◌+◌, ◌<◌, ℤ, pos, negsuc, Bool, true, false, List, []}
use Rattle.whole_numbers.proofs.Common.{length, drop, refl, ◌∷◌, ◌++◌, append_assoc, subst, ap, sym, ◌∙◌, arith}
use Rattle.whole_numbers.proofs.Common.{add-one, drop-cons, Option, Result, Some, Ok, Err, T, not, if◌then◌else◌, zeros}
use Rattle.whole_numbers.proofs.Common.{length-zeros, ints, Affine, remainder}
use Rattle.wide_math.specs.declared.Wide.{Wide}
use Rattle.std.specs.Int.Signed.{lt_z, lt_z_no}
use Rattle.tableau_rows.specs.Rows.{Row, row_of}
use Rattle.tableau_rows.specs.Moves.{row_at, is_positive}
use Rattle.tableau_rows.specs.Problem.{problem_of, first_rows}
use Rattle.tableau_rows.specs.Run.{question, run}
use Rattle.checked_tableau.specs.Nodes.{Counted, Node, formed, chained, answered, ask, opposite_run, above_run, first_asked}
use Rattle.checked_tableau.specs.Nodes.{broken_somewhere, all_zero}
use Rattle.checked_tableau.specs.Solutions.{IsNode}
use Rattle.checked_tableau.proofs.QuestionAnswers.{opposite-value, above-value}
use Rattle.checked_tableau.proofs.KeptSolutions.{part_size}
use Rattle.pip_solver.specs.declared.node.Tableau.{Tableau}
use Rattle.pip_solver.specs.Node.{node_of}
use Rattle.pip_solver.specs.declared.question.QuestionStop.{QuestionStop}
use Rattle.pip_solver.specs.declared.question.QuestionStop.TheVariants as stop
use Rattle.pip_solver.specs.steps.Promises.{Tells, AsksOf}

pub ask-is : (left m : ℕ) (rows : List Affine)
    → ask left m rows ≡ answered (run m left (first_rows 0 (problem_of m rows)))
unfolding question
ask-is left m rows = refl

pub opposite-size : (f g : Affine) → opposite_run f ≡ Ok g → length g.coefficients ≡ length f.coefficients
opposite-size f g h = (opposite-value f g [] h).1

pub above-size : (d : ℤ) (f g : Affine) → above_run d f ≡ Ok g → length g.coefficients ≡ length f.coefficients + 1
above-size d f g h = (above-value d f g (zeros (length f.coefficients)) (pos 0)
    (sym (length-zeros (length f.coefficients))) h).1

-- a form behind another
pub asked-behind : (left m : ℕ) (q : Result Affine Wide) (fs : List Affine) (f : Affine)
    → formed left q (λ h. ask left m ((fs ++ f ∷ []) ++ h ∷ [])) ≡ formed left q (λ h. ask left m (fs ++ f ∷ h ∷ []))
asked-behind left m (Ok h) fs f = ap (λ (gs : List Affine). ask left m gs) (append_assoc fs (f ∷ []) (h ∷ []))
asked-behind left m (Err w) fs f = refl

pub asks_of : (t : Tableau) (row : ℕ) → IsNode t.rows.unknowns (node_of t) → row < length t.rows.rows → AsksOf t row
asks_of t row is within = (within, is.speaks, part_size t.rows.unknowns (node_of t) row is within)

-- whether a number is above 0, as the code asks
positive-test : (z : ℤ) → is_positive z ≡ lt_z (pos 0) z
positive-test (pos zero) = refl
positive-test (negsuc n) = refl
positive-test (pos (suc n)) = by_test (lt_z (pos 0) (pos (suc n))) refl
  where
    by_test : (b : Bool) → lt_z (pos 0) (pos (suc n)) ≡ b → true ≡ b
    by_test true e = refl
    by_test false e = let h = lt_z_no {a = pos 0} {b = pos (suc n)} (subst (λ b. T (not b)) (sym e) tt) in
        absurd (omega (arith, ints, h))

-- a form without a parameter is no multiple of d where its constant leaves more than 0
pub broken-constant : (left : ℕ) (node : Node) (d : ℤ) (f : Affine) (r : ℤ) → true ≡ all_zero f.coefficients
    → r ≡ remainder f.constant d → broken_somewhere left node d f ≡ Ok (lt_z (pos 0) r, left)
broken-constant left node d f r flat made = rw (← flat, ← made, positive-test r) refl

-- the first row of which the answer is yes
pub asked-yes : (test : ℕ → Row → Counted Bool) (left i rest : ℕ) (rows : List Row) → i < length rows
    → test left (row_at rows i) ≡ Ok (true, rest)
    → first_asked test left i (drop i rows) ≡ Ok (Some i, rest)
asked-yes test left i rest rows within found =
    ap (λ (rs : List Row). first_asked test left i rs) (drop-cons rows i (row_of (pos 1) []) within)
    ∙ ap (λ (q : Counted Bool). chained q (λ yes rest. if yes then Ok (Some i, rest)
    else first_asked test rest (suc i) (drop (suc i) rows))) found

pub asked-more : (test : ℕ → Row → Counted Bool) (left i rest : ℕ) (rows : List Row) → i < length rows
    → test left (row_at rows i) ≡ Ok (false, rest)
    → first_asked test left i (drop i rows) ≡ first_asked test rest (i + 1) (drop (i + 1) rows)
asked-more test left i rest rows within not =
    ap (λ (rs : List Row). first_asked test left i rs) (drop-cons rows i (row_of (pos 1) []) within)
    ∙ ap (λ (q : Counted Bool). chained q (λ yes rest. if yes then Ok (Some i, rest)
    else first_asked test rest (suc i) (drop (suc i) rows))) not
    ∙ ap (λ (k : ℕ). first_asked test rest k (drop k rows)) (sym (add-one i))

-- a call that stops, stops what is chained to it
pub chained-stops : {A B : Type 0} (s : QuestionStop) (left : ℕ) (q : Counted A) (f : A → ℕ → Counted B)
    → Tells {A = A} (Err s) left q → Tells {A = B} (Err s) left (chained q f)
chained-stops {A = A} stop.Wide left q f told = (told.0, ap (λ (q : Counted A). chained q f) told.1)
chained-stops {A = A} stop.Spent left q f told = (ap (λ (q : Counted A). chained q f) told.0, told.1)
chained-stops {A = A} stop.NoMemory left q f told = tt

pub asked-stops : (test : ℕ → Row → Counted Bool) (old i left : ℕ) (rows : List Row) (s : QuestionStop)
    → i < length rows → Tells {A = Bool} (Err s) left (test old (row_at rows i))
    → Tells {A = Option ℕ} (Err s) left (first_asked test old i (drop i rows))
asked-stops test old i left rows s within told =
    subst (λ (rs : List Row). Tells {A = Option ℕ} (Err s) left (first_asked test old i rs))
    (sym (drop-cons rows i (row_of (pos 1) []) within))
    (chained-stops s left (test old (row_at rows i))
    (λ yes rest. if yes then Ok (Some i, rest) else first_asked test rest (suc i) (drop (suc i) rows)) told)
