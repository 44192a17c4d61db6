-- Eliminations one after another, and the points that they follow.
use Rattle.whole_numbers.proofs.Common.{◌≡◌, ◌∙◌, ℕ, zero, suc, ◌+◌, ◌-◌, ◌*◌, ◌≤◌, ℤ, pos, ◌≤ℤ◌, List, [], ◌∷◌, ◌++◌}
use Rattle.whole_numbers.proofs.Common.{length, All, get_or, inl, inr, refl, sym, ap, subst, arith, length-append}
use Rattle.whole_numbers.proofs.Common.{negsuc, Result, Ok, Err, IfOk, ints, map-append, All-append, All-cons, All-head}
use Rattle.whole_numbers.proofs.Common.{All-map, All-nil, All-tail, get_or-append_seam, Affine, value_of, mul_one_left}
use Rattle.whole_numbers.proofs.Common.{mul_neg_left}
use Rattle.affine_forms.specs.Parts.{variables_of}
use Rattle.integer_sets.specs.Constraints.{Constraints, IsSized, system_of, variables_in}
use Rattle.integer_sets.specs.Points.{Satisfies}
use Rattle.fm_projection.specs.declared.stop.FmStop.{FmStop}
use Rattle.fm_projection.specs.Alone.{AreInRange, IsInRange, LeavesAlone, range_rows}
use Rattle.fm_projection.proofs.RangeRows.{least_row, most_row}
use Rattle.fm_projection.proofs.Ranges.{fitted, fitted_length, fitted_range, last_value, place_value}
use Rattle.fm_projection.proofs.Ranges.{satisfies_fitted}
use Rattle.fm_projection.specs.Projecting.{Follow}
use Rattle.fm_projection.proofs.WholePoints.{follow, one_more}
use Rattle.traced_projections.specs.declared.projections.Projection.{Projection}
use Rattle.traced_projections.specs.declared.projections.Projection.TheVariants as projection
use Rattle.traced_projections.specs.Tracing.{IsTraced, Row, Tracing, constraints_of, forms_of, numbered}
use Rattle.traced_projections.specs.Tracing.{traced}
use Rattle.traced_projections.specs.Eliminating.{DropsTraced, StopsTraced, traced_gone}
use Rattle.traced_projections.specs.Projections.{GoesTraced, LastFollows, PassEach, StopsEach, all_traced}
use Rattle.traced_projections.specs.Projections.{alone_traced, last_traced, ranged_traced, system_in, without_of}
use Rattle.traced_projections.proofs.Additions.{halts_so}
use Rattle.traced_projections.proofs.Overs.{follow_traced}

-- one elimination in front of others
pub goes_more : (i n m : ℕ) (t u : Tracing) (r : Result Tracing FmStop) → n ≡ suc m → DropsTraced i t (Ok u)
    → GoesTraced i m u r → GoesTraced i n t r
goes_more i n m t u (Ok v) is step goes =
    let rest = subst (λ w. PassEach i m w × (v ≡ all_traced i m w)) step.1 goes in
    subst (λ k. PassEach i k t × (v ≡ all_traced i k t)) (sym is) ((step.0, rest.0), rest.1)
goes_more i n m t u (Err stop) is step goes =
    halts_so (StopsEach i m u) (StopsEach i n t) stop
    (λ h. subst (λ k. StopsEach i k t stop) (sym is)
    (inr (step.0, subst (λ w. StopsEach i m w stop) step.1 h))) goes

pub goes_stop : (i n m : ℕ) (t : Tracing) (stop : FmStop) → n ≡ suc m → DropsTraced i t (Err stop)
    → GoesTraced i n t (Err stop)
goes_stop i n m t stop is step =
    halts_so (StopsTraced i t) (StopsEach i n t) stop
    (λ h. subst (λ k. StopsEach i k t stop) (sym is) (inl h)) step

pub goes_none : (i n : ℕ) (t : Tracing) → n ≡ 0 → GoesTraced i n t (Ok t)
goes_none i n t is = subst (λ k. PassEach i k t × (t ≡ all_traced i k t)) (sym is) (tt, refl)

pub traced_dimensions : (i n : ℕ) (t : Tracing) → (all_traced i n t).dimensions ≡ t.dimensions - n
traced_dimensions i zero t = omega arith
traced_dimensions i (suc n) t = let more = traced_dimensions i n (traced_gone i t) in omega (arith, more)

pub traced_parameters : (i n : ℕ) (t : Tracing) → (all_traced i n t).parameters ≡ t.parameters
traced_parameters i zero t = refl
traced_parameters i (suc n) t = traced_parameters i n (traced_gone i t)

-- the dimensions in front of the last gone, and those behind the first
front_left : (t : Tracing) (outer rest : List ℤ) → Satisfies (constraints_of t) (outer ++ rest)
    → Satisfies (constraints_of (all_traced 0 (length outer) t)) rest
front_left t [] rest h = h
front_left t (y ∷ outer) rest h =
    front_left (traced_gone 0 t) outer rest (follow_traced 0 t [] y (outer ++ rest) refl h)

back_left : (t : Tracing) (x : ℤ) (rest : List ℤ) → Satisfies (constraints_of t) (x ∷ rest)
    → Satisfies (constraints_of (all_traced 1 (length rest) t)) (x ∷ [])
back_left t x [] h = h
back_left t x (y ∷ rest) h = back_left (traced_gone 1 t) x rest (follow_traced 1 t (x ∷ []) y rest refl h)

-- the rows of the range hold there
range_holds : (n i : ℕ) (front qs : List ℤ) → length front ≡ i → i + length qs ≤ n → AreInRange qs
    → All (λ f. pos 0 ≤ℤ value_of f (front ++ qs)) (range_rows n i (length qs))
range_holds n i front [] size few range = All-nil (λ f. pos 0 ≤ℤ value_of f (front ++ []))
range_holds n i front (q ∷ qs) size few range =
    let point = front ++ q ∷ qs in
    let P : Affine → Type 0 = λ f. pos 0 ≤ℤ value_of f point in
    let here = All-head IsInRange q qs range in
    let low = here.0 in
    let high = here.1 in
    let entry : get_or point i (pos 0) ≡ q =
    subst (λ (k : ℕ). get_or point k (pos 0) ≡ q) size (get_or-append_seam front q qs (pos 0)) in
    let a = place_value n i (pos 1) (pos 0) point (omega (arith, few)) in
    let b = place_value n i (negsuc 0) (pos 65536) point (omega (arith, few)) in
    let p = mul_one_left (get_or point i (pos 0)) in
    let m = mul_neg_left (pos 1) (get_or point i (pos 0)) in
    let least : P (least_row n i) = omega (arith, ints, a, p, entry, low) in
    let most : P (most_row n i) = omega (arith, ints, b, m, p, entry, high) in
    let longer : length (front ++ q ∷ []) ≡ suc i = omega (arith, length-append front (q ∷ []), size) in
    let rest = range_holds n (suc i) (front ++ q ∷ []) qs longer (omega (arith, few)) (All-tail IsInRange q qs range) in
    All-cons P (least_row n i) (most_row n i ∷ range_rows n (suc i) (length qs)) least
    (All-cons P (most_row n i) (range_rows n (suc i) (length qs)) most
    (subst (λ (zs : List ℤ). All (λ f. pos 0 ≤ℤ value_of f zs) (range_rows n (suc i) (length qs)))
    (one_more front q qs) rest))

numbered_forms : (k : ℕ) (fs : List Affine) → forms_of (numbered k fs) ≡ fs
numbered_forms k [] = refl
numbered_forms k (f ∷ fs) = ap (λ (gs : List Affine). f ∷ gs) (numbered_forms (suc k) fs)

pub traced_same : (s : Constraints) → constraints_of (traced s) ≡ s
traced_same s =
    ap (λ (fs : List Affine). system_of s.dimensions s.parameters s.equalities fs)
    (numbered_forms (2 * s.parameters) s.rows)

-- a projection of either kind is followed
pub follow_of : (i : ℕ) (p : Projection) → Follow i (system_in p) (system_in (without_of i p))
follow_of i (projection.Exact s) = follow i s
follow_of i (projection.Traced t) = follow_traced i t

-- so the last value of each point is left
pub alone_follows : (t : Tracing) → IsTraced t → LastFollows (constraints_of t) (constraints_of (alone_traced t))
alone_follows t own outer x params size range h =
    let d = t.dimensions in
    let p = t.parameters in
    let qs = fitted p params in
    let count = fitted_length p params in
    let front = outer ++ x ∷ [] in
    let n = d + p in
    let total : length front ≡ d = omega (arith, length-append outer (x ∷ []), size) in
    let sized : IsSized (length front + p) t.equalities (forms_of t.rows) =
    subst (λ k. IsSized (k + p) t.equalities (forms_of t.rows)) (sym total) (record {
      equalities_sized = own.over.equalities_over;
      rows_sized = All-map (λ f. variables_of f ≡ n) (λ (r : Row). r.form) t.rows own.over.rows_over;
    }) in
    let fit = satisfies_fitted (constraints_of t) front params p sized
    (subst (Satisfies (constraints_of t)) (sym (one_more outer x params)) h) in
    let P : Affine → Type 0 = λ f. pos 0 ≤ℤ value_of f (front ++ qs) in
    let range_all : All P (range_rows n d p) =
    subst (λ k. All P (range_rows n d k)) count
    (range_holds n d front qs total (omega (arith, count)) (fitted_range p params range)) in
    let forms : forms_of (ranged_traced t).rows ≡ forms_of t.rows ++ range_rows n d p =
    map-append (λ (r : Row). r.form) t.rows (numbered 0 (range_rows n d p))
    ∙ ap (λ (fs : List Affine). forms_of t.rows ++ fs) (numbered_forms 0 (range_rows n d p)) in
    let rows : All P (forms_of (ranged_traced t).rows) =
    subst (All P) (sym forms) (All-append P (forms_of t.rows) (range_rows n d p) fit.1 range_all) in
    let all : Satisfies (constraints_of (ranged_traced t)) (outer ++ x ∷ qs) =
    subst (Satisfies (constraints_of (ranged_traced t))) (one_more outer x qs) (fit.0, rows) in
    let last = front_left (ranged_traced t) outer (x ∷ qs) all in
    let less : length outer ≡ d - 1 = omega (arith, size) in
    let here : Satisfies (constraints_of (last_traced t)) (x ∷ qs) =
    subst (λ k. Satisfies (constraints_of (all_traced 0 k (ranged_traced t))) (x ∷ qs)) less last in
    subst (λ k. Satisfies (constraints_of (all_traced 1 k (last_traced t))) (x ∷ [])) count
    (back_left (last_traced t) x qs here)

pub exact_follows : (s : Constraints) (r : Result Constraints FmStop) → IsSized (variables_in s) s.equalities s.rows
    → LeavesAlone s r → IfOk r (LastFollows s)
exact_follows s (Ok t) sized h =
    subst (LastFollows s) (sym h.2) (λ outer x params size range k. last_value s outer x params sized size range k)
exact_follows s (Err stop) sized h = tt
