-- The question of a system's emptiness is answered right: what its answer means.
use Rattle.whole_numbers.proofs.Common.{◌≡◌, ◌↔◌, ℕ, zero, suc, ◌+◌, ◌<◌, ◌≤◌, ℤ, pos, negsuc, neg_ℤ, ◌-ℤ◌, ◌*ℤ◌, ◌≤ℤ◌}
use Rattle.whole_numbers.proofs.Common.{true, false, List, [], ◌∷◌, ◌++◌, length, get_or, set, drop, take, All, refl}
use Rattle.whole_numbers.proofs.Common.{subst, ap, sym, ◌∙◌, arith, length-append, Ok, Err, ints, length-take-le}
use Rattle.whole_numbers.proofs.Common.{length-drop, take-append-drop, All-cons, All-nil, All-head, All-tail, zeros}
use Rattle.whole_numbers.proofs.Common.{NotNegative, Affine, form_of, value_of, mul_neg_left, mul_one_left}
use Rattle.whole_numbers.proofs.Common.{dot-set_left, dot-zeros, get_or-zeros, length-zeros, not_negative-append}
use Rattle.std.proofs.lemmas.List.{append-nil}
use Rattle.std.proofs.Math.ListN.{length-set}
use Rattle.integer_sets.specs.Checked.{difference_of, ◌>>=◌}
use Rattle.integer_sets.proofs.CheckedSteps.{chain-ok, difference_of-ok}
use Rattle.integer_sets.specs.Parts.{variables_of}
use Rattle.integer_sets.specs.Constraints.{Constraints, variables_in, IsSized}
use Rattle.tableau_rows.specs.Problem.{problem_of, row_values, IsPoint, Speaks}
use Rattle.tableau_rows.specs.Run.{point, none, Outcome, question}
use Rattle.tableau_rows.proofs.Points.{not_negative-parts}
use Rattle.tableau_rows.proofs.Verdicts.{question-right}
use Rattle.lexmin_runs.specs.Nodes.{opposites_run}
use Rattle.lexmin_runs.specs.Emptiness.{negated_run, equality_rows_run, bound_rows, posed_run, emptied, empty_run}
use Rattle.lexmin_runs.specs.Emptiness.{IsBoundedPoint, HasBoundedPoint}
use Rattle.lexmin_runs.proofs.AddedParameters.{row_values-append, speaks-append}
use Rattle.lexmin_runs.proofs.QuestionAnswers.{opposites-dot, formed-ok, same_first}

pub negated-value : (f g : Affine) (z : List ℤ) → negated_run f ≡ Ok g
    → (value_of g z ≡ pos 0 -ℤ value_of f z) × (length g.coefficients ≡ length f.coefficients)
unfolding negated_run
negated-value f g z h =
    let c = chain-ok (opposites_run f.coefficients)
    (λ (bs : List ℤ). difference_of (pos 0) f.constant >>= λ c. Ok (form_of bs c)) g h in
    let d = chain-ok (difference_of (pos 0) f.constant) (λ (k : ℤ). Ok (form_of c.0 k)) g c.2 in
    let is : g ≡ form_of c.0 d.0 = cc (d.2) in
    let o = opposites-dot f.coefficients c.0 z c.1 in
    let k = o.0 in
    let x = ((difference_of-ok (pos 0) f.constant d.0).0 d.1).0 in
    subst (λ (w : Affine). (value_of w z ≡ pos 0 -ℤ value_of f z) × (length w.coefficients ≡ length f.coefficients))
    (sym is)
    (omega (arith, ints), o.1)

-- the rows of equalities
pub equality_rows-are : (v : ℕ) (fs gs : List Affine) (z : List ℤ) → All (λ f. variables_of f ≡ v) fs
    → equality_rows_run fs ≡ Ok gs
    → Speaks v gs × (NotNegative (row_values gs z) ↔ All (λ f. value_of f z ≡ pos 0) fs)
equality_rows-are v [] gs z sized h =
    let e : [] ≡ gs = cc in
    subst (λ (k : List Affine). Speaks v k × (NotNegative (row_values k z) ↔ All (λ f. value_of f z ≡ pos 0) [])) e
    (tt, (λ h. All-nil (λ f. value_of f z ≡ pos 0), λ h. tt))
equality_rows-are v (f ∷ fs) gs z sized h =
    let c = chain-ok (negated_run f) (λ (g : Affine). equality_rows_run fs >>= λ rest. Ok (f ∷ g ∷ rest)) gs h in
    let d = chain-ok (equality_rows_run fs) (λ (rest : List Affine). Ok (f ∷ c.0 ∷ rest)) gs c.2 in
    let e : f ∷ c.0 ∷ d.0 ≡ gs = cc (d.2) in
    let Zero : Affine → Type 0 = λ f. value_of f z ≡ pos 0 in
    let n = negated-value f c.0 z c.1 in
    let value = n.0 in
    let size = All-head (λ f. variables_of f ≡ v) f fs sized in
    let more = equality_rows-are v fs d.0 z (All-tail (λ f. variables_of f ≡ v) f fs sized) d.1 in
    subst (λ (k : List Affine). Speaks v
    k × (NotNegative (row_values k z) ↔ All (λ f. value_of f z ≡ pos 0) (f ∷ fs))) e (
      (size, (n.1 ∙ size, more.0)),
      (
        λ h. let a = h.0 in let b = h.1.0 in
            All-cons Zero f fs (let t : value_of f z ≡ pos 0 = omega (arith, ints) in t) (more.1.0 h.1.1),
        λ h. let t = All-head Zero f fs h in
            (omega (arith, ints), (omega (arith, ints), more.1.1 (All-tail Zero f fs h))),
      ),
    )

-- rows
pub rows-are : (fs : List Affine) (z : List ℤ) → NotNegative (row_values fs z) ↔ All (λ f. pos 0 ≤ℤ value_of f z) fs
rows-are [] z = (λ h. All-nil (λ f. pos 0 ≤ℤ value_of f z), λ h. tt)
rows-are (f ∷ fs) z =
    let P : Affine → Type 0 = λ f. pos 0 ≤ℤ value_of f z in
    let more = rows-are fs z in (
      λ h. All-cons P f fs h.0 (more.0 h.1),
      λ h. (All-head P f fs h, more.1 (All-tail P f fs h)),
    )

pub rows_speak : (v : ℕ) (fs : List Affine) → All (λ f. variables_of f ≡ v) fs → Speaks v fs
rows_speak v [] h = tt
rows_speak v (f ∷ fs) h =
    (All-head (λ f. variables_of f ≡ v) f fs h, rows_speak v fs (All-tail (λ f. variables_of f ≡ v) f fs h))

-- bounds
pub bounds_speak : (v i k : ℕ) → Speaks v (bound_rows v i k)
bounds_speak v i zero = tt
bounds_speak v i (suc k) = (simp length-set (length-zeros v), bounds_speak v (suc i) k)

pub bound-value : (v i : ℕ) (z : List ℤ) → i < v
    → value_of (form_of (set (zeros v) i (negsuc 0)) (pos 65536)) z ≡ pos 65536 -ℤ get_or z i (pos 0)
bound-value v i z low =
    let a = dot-set_left (zeros v) z i (negsuc 0) (omega (arith, length-zeros v)) in
    let b = dot-zeros v z in
    let c = get_or-zeros v i in
    let d : negsuc 0 -ℤ get_or (zeros v) i (pos 0) ≡ neg_ℤ (pos 1) = omega (arith, ints) in
    let e = ap (λ (k : ℤ). k *ℤ get_or z i (pos 0)) d in
    let f = mul_neg_left (pos 1) (get_or z i (pos 0)) in
    let g = mul_one_left (get_or z i (pos 0)) in
    omega (arith, ints)

pub bounds-are : (v : ℕ) (front p : List ℤ) → length front + length p ≤ v
    → NotNegative (row_values (bound_rows v (length front) (length p)) (front ++ p)) ↔ All (λ z. z ≤ℤ pos 65536) p
bounds-are v front [] wide = (λ h. All-nil (λ (z : ℤ). z ≤ℤ pos 65536), λ h. tt)
bounds-are v front (x ∷ p) wide =
    let P : ℤ → Type 0 = λ z. z ≤ℤ pos 65536 in
    let value = bound-value v (length front) (front ++ x ∷ p) (omega arith) in
    let at = seam front x p in
    let long : length (front ++ x ∷ []) ≡ suc (length front) = simp length-append (omega arith) in
    let whole : (front ++ x ∷ []) ++ p ≡ front ++ x ∷ p = shifted front x p in
    let rest = subst (λ (i : ℕ). NotNegative (row_values (bound_rows v i (length p)) (front ++ x ∷ p)) ↔ All P p) long
    (subst (λ (w : List ℤ). NotNegative (row_values (bound_rows v (length (front ++ x ∷ [])) (length p)) w) ↔ All P
    p) whole
    (bounds-are v (front ++ x ∷ []) p (omega arith))) in (
      λ h. let a = h.0 in All-cons P x p (let t : x ≤ℤ pos 65536 = omega (arith, ints) in t) (rest.0 h.1),
      λ h. let a = All-head P x p h in (omega (arith, ints), rest.1 (All-tail P x p h)),
    )
  where
    seam : (front : List ℤ) (x : ℤ) (p : List ℤ) → get_or (front ++ x ∷ p) (length front) (pos 0) ≡ x
    seam [] x p = refl
    seam (y ∷ front) x p = seam front x p

    shifted : (front : List ℤ) (x : ℤ) (p : List ℤ) → (front ++ x ∷ []) ++ p ≡ front ++ x ∷ p
    shifted [] x p = refl
    shifted (y ∷ front) x p = ap (λ (ws : List ℤ). y ∷ ws) (shifted front x p)

-- a point of the posed rows is a bounded point
pub posed_points : (s : Constraints) (rows : List Affine) (x p : List ℤ)
    → IsSized (variables_in s) s.equalities s.rows → posed_run s ≡ Ok rows
    → length x ≡ s.dimensions → length p ≡ s.parameters
    → Speaks (variables_in s) rows × (IsPoint (problem_of (variables_in s) rows) [] (x ++ p) ↔ IsBoundedPoint s x p)
unfolding posed_run
posed_points s rows x p sized h dx dp =
    let v = variables_in s in
    let z = x ++ p in
    let bounds = bound_rows v s.dimensions s.parameters in
    let c = chain-ok (equality_rows_run s.equalities) (λ (es : List Affine). Ok (es ++ (s.rows ++ bounds))) rows h in
    let e : c.0 ++ (s.rows ++ bounds) ≡ rows = cc (c.2) in
    let eq = equality_rows-are v s.equalities c.0 z sized.equalities_sized c.1 in
    let own = rows-are s.rows z in
    let b = subst (λ (k : ℕ). NotNegative (row_values (bound_rows v k s.parameters) z) ↔ All
    (λ (y : ℤ). y ≤ℤ pos 65536) p) dx
    (subst (λ (k : ℕ). NotNegative (row_values (bound_rows v (length x) k) z) ↔ All (λ (y : ℤ). y ≤ℤ pos 65536) p) dp
    (bounds-are v x p (omega arith))) in
    let size : length z ≡ v = simp length-append (omega arith) in
    let nil = append-nil z in
    let parts = row_values-append c.0 (s.rows ++ bounds) z in
    let more = row_values-append s.rows bounds z in
    subst (λ (k : List Affine). Speaks v k × (IsPoint (problem_of v k) [] z ↔ IsBoundedPoint s x p)) e (
      speaks-append v c.0 (s.rows ++ bounds) eq.0
          (speaks-append v s.rows bounds (rows_speak v s.rows sized.rows_sized)
          (bounds_speak v s.dimensions s.parameters)),
      (
        λ is.
            let all = subst (λ (w : List ℤ). NotNegative (row_values (c.0 ++ (s.rows ++ bounds)) w)) nil is.rows in
            let one = not_negative-parts (row_values c.0 z) (row_values (s.rows ++ bounds) z)
            (subst NotNegative parts all) in
            let two = not_negative-parts (row_values s.rows z) (row_values bounds z) (subst NotNegative more one.1) in
            record {
              dimensions = dx;
              parameters = dp;
              not_negative = is.not_negative;
              bounded = b.0 two.1;
              inside = (eq.1.0 one.0, own.0 two.0);
            },
        λ is.
            let all = not_negative-append (row_values c.0 z) (row_values (s.rows ++ bounds) z) (eq.1.1 is.inside.0)
            (subst NotNegative (sym more) (not_negative-append (row_values s.rows z) (row_values bounds z)
            (own.1 is.inside.1) (b.1 is.bounded))) in
            record {
              size = size;
              not_negative = is.not_negative;
              rows =
                  subst (λ (w : List ℤ). NotNegative (row_values (c.0 ++ (s.rows ++ bounds)) w)) (sym nil)
                  (subst NotNegative (sym parts) all);
            },
      ),
    )

-- the two answers
pub empty-true : (budget : ℕ) (s : Constraints) (left : ℕ) → IsSized (variables_in s) s.equalities s.rows
    → empty_run budget s ≡ Ok (true, left)
    → (x p : List ℤ) → IsBoundedPoint s x p → ⊥
unfolding empty_run
empty-true budget s left sized h x p is =
    let c = formed-ok budget (posed_run s)
    (λ (rows : List Affine). emptied (question budget (problem_of (variables_in s) rows))) true left h in
    let posed = posed_points s c.0 x p sized c.1 is.dimensions is.parameters in
    by_outcome c.0 posed.0 (posed.1.1 is) (question budget (problem_of (variables_in s) c.0)) refl c.2
  where
    by_outcome : (rows : List Affine) → Speaks (variables_in s) rows
        → IsPoint (problem_of (variables_in s) rows) [] (x ++ p) → (o : Outcome)
        → question budget (problem_of (variables_in s) rows) ≡ o → emptied o ≡ Ok (true, left) → ⊥
    by_outcome rows speaks at (Ok (point y, k)) e h = let f = same_first false true k left h in cc
    by_outcome rows speaks at (Ok (none, k)) e h =
        question-right budget (variables_in s) rows none k speaks e (x ++ p) at
    by_outcome rows speaks at (Err stop) e h = cc

pub empty-false : (budget : ℕ) (s : Constraints) (left : ℕ) → IsSized (variables_in s) s.equalities s.rows
    → empty_run budget s ≡ Ok (false, left)
    → HasBoundedPoint s
unfolding empty_run
empty-false budget s left sized h =
    let c = formed-ok budget (posed_run s)
    (λ (rows : List Affine). emptied (question budget (problem_of (variables_in s) rows))) false left h in
    by_outcome c.0 c.1 (question budget (problem_of (variables_in s) c.0)) refl c.2
  where
    found : (rows : List Affine) → posed_run s ≡ Ok rows → (y : List ℤ)
        → IsPoint (problem_of (variables_in s) rows) [] y → HasBoundedPoint s
    found rows posed y is =
        let x = take s.dimensions y in
        let p = drop s.dimensions y in
        let size = is.size in
        let dx : length x ≡ s.dimensions = length-take-le s.dimensions y (omega arith) in
        let dp : length p ≡ s.parameters = omega (arith, length-drop s.dimensions y) in
        let whole = subst (λ (w : List ℤ). IsPoint (problem_of (variables_in s) rows) [] w)
        (sym (take-append-drop s.dimensions y)) is in
        record { x = x; p = p; is = (posed_points s rows x p sized posed dx dp).1.0 whole }

    by_outcome : (rows : List Affine) → posed_run s ≡ Ok rows → (o : Outcome)
        → question budget (problem_of (variables_in s) rows) ≡ o → emptied o ≡ Ok (false, left) → HasBoundedPoint s
    by_outcome rows posed (Ok (point y, k)) e h =
        let zs = zeros s.dimensions in
        let ps = zeros s.parameters in
        let speaks = (posed_points s rows zs ps sized posed (length-zeros s.dimensions)
        (length-zeros s.parameters)).0 in
        found rows posed y (question-right budget (variables_in s) rows (point y) k speaks e).inside
    by_outcome rows posed (Ok (none, k)) e h = let f = same_first true false k left h in cc
    by_outcome rows posed (Err stop) e h = cc
