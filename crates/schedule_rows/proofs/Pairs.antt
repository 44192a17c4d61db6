-- Pairs of a dependence, and of what it is restricted to: what Farkas's identity of a row says of them.
use Rattle.scop_syntax.proofs.Common.{◌≡◌, ℕ, ℤ, pos, negsuc, ◌≤ℤ◌, List, [], ◌∷◌, ◌++◌, sym, ◌∙◌, ap, subst, All}
use Rattle.scop_syntax.proofs.Common.{arith, length, inl, inr, ◌+ℤ◌, ◌-ℤ◌, ◌<ℤ◌, ◌↔◌, All-cons, All-nil, All-push}
use Rattle.scop_syntax.proofs.Common.{All-head, All-tail, ints, dot, multiples, zeros, Affine, value_of, dot-append}
use Rattle.scop_syntax.proofs.Common.{dot-multiples, dot-zeros, length-multiples, length-zeros, form_of, mul_one_right}
use Rattle.scop_syntax.proofs.Common.{all_front, all_back, Instance}
use Rattle.fractions.specs.Fractions.{value_over}
use Rattle.fractions.specs.Farkas.{HasFarkas, two_rows}
use Rattle.fractions.proofs.Combination.{farkas_of_system}
use Rattle.farkas.specs.Claims.{distance, slack}
use Rattle.schedule_rows.specs.Posed.{IsLegal, IsBounded}
use Rattle.schedule_rows.proofs.BlockOrder.{le_apart}
use Rattle.schedule_rows.specs.Items.{Row, part_of, phi}
use Rattle.iteration_domains.specs.Dependence.{Dependence, binds_in}
use Rattle.schedule_rows.specs.Dependences.{Relates, IsEmptyDep, unknowns_of, Suits, equal_at, above_at}
use Rattle.schedule_rows.specs.Dependences.{IsKept, IsEqualAt, point_of}

-- the form's value is the difference of the values
pub distance-value : (m : ℕ) (d : Dependence) (r : Row) (params bound : List ℤ) (x y : Instance)
    → length bound ≡ binds_in d
    → x.number ≡ d.source.statement → y.number ≡ d.target.statement → length x.turns ≡ d.source.loops
    → length y.turns ≡ d.target.loops
    → Suits d r → value_of (distance (binds_in d) m (unknowns_of d r)) (point_of params bound x y)
    ≡ phi r y -ℤ phi r x
distance-value m d r params bound x y lb hs ht ls lt h =
    let p = part_of r d.source.statement in
    let q = part_of r d.target.statement in
    let ps : part_of r x.number ≡ p = ap (λ (s : ℕ). part_of r s) hs in
    let pt : part_of r y.number ≡ q = ap (λ (s : ℕ). part_of r s) ht in
    let n = binds_in d in
    let a = dot-append (multiples (negsuc 0) p.coefficients) (q.coefficients ++ (zeros n ++ zeros m)) x.turns
    (y.turns ++ (bound ++ params))
    (length-multiples (negsuc 0) p.coefficients ∙ (h.0 ∙ sym ls)) in
    let b = dot-append q.coefficients (zeros n ++ zeros m) y.turns (bound ++ params) (h.1 ∙ sym lt) in
    let e = dot-append (zeros n) (zeros m) bound params (length-zeros n ∙ sym lb) in
    let c = dot-multiples (negsuc 0) p.coefficients x.turns in
    let z = dot-zeros m params in
    let o = dot-zeros n bound in
    let fx : phi r x ≡ dot p.coefficients x.turns +ℤ p.shift =
    ap (λ k. dot k.coefficients x.turns +ℤ k.shift) ps in
    let fy : phi r y ≡ dot q.coefficients y.turns +ℤ q.shift =
    ap (λ k. dot k.coefficients y.turns +ℤ k.shift) pt in
    omega (arith, ints)

-- a dependence with other constraints
abbrev limited : Dependence → List Affine → List Affine → Dependence
limited d es rs = record d { system = record d.system { equalities = es; rows = rs } }

-- a pair of a dependence is one of it with other constraints where it meets those
meets : (d : Dependence) (es rs fs ss : List Affine) (params : List ℤ) (x y : Instance)
    → (h : Relates params (limited d es rs) x y) → All (λ f. value_of f (point_of params h.bound x y) ≡ pos 0) fs
    → All (λ f. pos 0 ≤ℤ value_of f (point_of params h.bound x y)) ss → Relates params (limited d fs ss) x y
meets d es rs fs ss params x y h zero least = record {
  range = h.range;
  source = h.source;
  target = h.target;
  source_size = h.source_size;
  target_size = h.target_size;
  source_from_0 = h.source_from_0;
  target_from_0 = h.target_from_0;
  bound = h.bound;
  bound_size = h.bound_size;
  bound_from_0 = h.bound_from_0;
  equalities = zero;
  rows = least;
}

-- the pairs of a dependence that is restricted to equal values are its pairs with equal values
pub equal_to : (m : ℕ) (d : Dependence) (r : Row) (params : List ℤ) (x y : Instance) → Suits d r
    → Relates params (equal_at m r d) x y → Relates params d x y × (phi r x ≡ phi r y)
equal_to m d r params x y s h =
    let all = h.equalities in
    let Zero = λ (f : Affine). value_of f (point_of params h.bound x y) ≡ pos 0 in
    let e = All-head Zero (distance (binds_in d) m (unknowns_of d r)) []
    (all_back Zero d.system.equalities (distance (binds_in d) m (unknowns_of d r) ∷ []) all) in
    let v = distance-value m d r params h.bound x y h.bound_size h.source h.target h.source_size h.target_size s in (
      meets d (d.system.equalities ++ distance (binds_in d) m (unknowns_of d r) ∷ []) d.system.rows d.system.equalities
          d.system.rows params x y h
          (all_front Zero d.system.equalities (distance (binds_in d) m (unknowns_of d r) ∷ []) all) h.rows,
      omega (arith, ints),
    )

pub equal_from : (m : ℕ) (d : Dependence) (r : Row) (params : List ℤ) (x y : Instance) → Suits d r
    → Relates params d x y → phi r x ≡ phi r y → Relates params (equal_at m r d) x y
equal_from m d r params x y s h e =
    let Zero = λ (f : Affine). value_of f (point_of params h.bound x y) ≡ pos 0 in
    let v = distance-value m d r params h.bound x y h.bound_size h.source h.target h.source_size h.target_size s in
    meets d d.system.equalities d.system.rows (d.system.equalities ++ distance (binds_in d) m (unknowns_of d r) ∷ [])
    d.system.rows params x y h (All-push Zero d.system.equalities (distance (binds_in d) m (unknowns_of d r)) h.equalities
    (omega (arith, ints))) h.rows

above_value : (c : List ℤ) (k : ℤ) (xs : List ℤ)
    → value_of (form_of c (k +ℤ negsuc 0)) xs ≡ value_of (form_of c k) xs -ℤ pos 1
above_value c k xs = omega (arith, ints)

-- a pair whose value rises is one of the dependence with the row phi_T - phi_S >= 1
pub above_from : (m : ℕ) (d : Dependence) (r : Row) (params : List ℤ) (x y : Instance) → Suits d r
    → Relates params d x y → phi r x <ℤ phi r y → Relates params (above_at m r d) x y
above_from m d r params x y s h l =
    let Least = λ (f : Affine). pos 0 ≤ℤ value_of f (point_of params h.bound x y) in
    let v = distance-value m d r params h.bound x y h.bound_size h.source h.target h.source_size h.target_size s in
    let k = above_value (distance (binds_in d) m (unknowns_of d r)).coefficients
    (distance (binds_in d) m (unknowns_of d r)).constant (point_of params h.bound x y) in
    let g = form_of (distance (binds_in d) m (unknowns_of d r)).coefficients
    ((distance (binds_in d) m (unknowns_of d r)).constant +ℤ negsuc 0) in
    meets d d.system.equalities d.system.rows d.system.equalities (d.system.rows ++ g ∷ []) params x y h h.equalities
    (All-push Least d.system.rows g h.rows (omega (arith, ints)))

pub above_to : (m : ℕ) (d : Dependence) (r : Row) (params : List ℤ) (x y : Instance) → Suits d r
    → Relates params (above_at m r d) x y → Relates params d x y × (phi r x <ℤ phi r y)
above_to m d r params x y s h =
    let Least = λ (f : Affine). pos 0 ≤ℤ value_of f (point_of params h.bound x y) in
    let g = form_of (distance (binds_in d) m (unknowns_of d r)).coefficients
    ((distance (binds_in d) m (unknowns_of d r)).constant +ℤ negsuc 0) in
    let e = All-head Least g [] (all_back Least d.system.rows (g ∷ []) h.rows) in
    let v = distance-value m d r params h.bound x y h.bound_size h.source h.target h.source_size h.target_size s in
    let k = above_value (distance (binds_in d) m (unknowns_of d r)).coefficients
    (distance (binds_in d) m (unknowns_of d r)).constant (point_of params h.bound x y) in (
      meets d d.system.equalities (d.system.rows ++ g ∷ []) d.system.equalities d.system.rows params x y h h.equalities
          (all_front Least d.system.rows (g ∷ []) h.rows),
      omega (arith, ints),
    )

-- a row that is kept is parallel for a dependence exactly where no pair rises
pub parallel_exact : (m : ℕ) (d : Dependence) (r : Row) → Suits d r → IsKept m r d
    → IsEmptyDep m (above_at m r d) ↔ IsEqualAt m r d
parallel_exact m d r s kept = (
  λ none params x y size h.
      elim (le_apart (phi r x) (phi r y) (kept params x y size h)) [
        | inl l ↦ absurd (none params x y size (above_from m d r params x y s h l))
        | inr e ↦ e
      ],
  λ equal params x y size h.
      let a = above_to m d r params x y s h in
      let e = equal params x y size a.0 in
      absurd (omega (arith, ints)),
)

over_one : (f : Affine) (xs : List ℤ) → value_of f xs ≡ value_over f (pos 1) xs
over_one f xs = let e = mul_one_right f.constant in omega (arith, ints)

all_over : (P Q : Affine → Type 0) → ((f : Affine) → P f → Q f) → (fs : List Affine) → All P fs → All Q fs
all_over P Q to [] h = All-nil Q
all_over P Q to (f ∷ fs) h =
    All-cons Q f fs (to f (All-head P f fs h)) (all_over P Q to fs (All-tail P f fs h))

-- a form with Farkas's identity over the dependence's rows is not negative at its pairs
pub farkas_at : (d : Dependence) (form : Affine) (params : List ℤ) (x y : Instance)
    → HasFarkas (two_rows d.system.equalities ++ d.system.rows) form → (h : Relates params d x y)
    → pos 0 ≤ℤ value_of form (point_of params h.bound x y)
farkas_at d form params x y f h =
    let at = point_of params h.bound x y in
    let es = all_over (λ g. value_of g at ≡ pos 0) (λ g. value_over g (pos 1) at ≡ pos 0)
    (λ g k. sym (over_one g at) ∙ k) d.system.equalities h.equalities in
    let rs = all_over (λ g. pos 0 ≤ℤ value_of g at) (λ g. pos 0 ≤ℤ value_over g (pos 1) at)
    (λ g k. subst (λ (z : ℤ). pos 0 ≤ℤ z) (over_one g at) k) d.system.rows h.rows in
    subst (λ (z : ℤ). pos 0 ≤ℤ z) (sym (over_one form at))
    (farkas_of_system d.system.equalities d.system.rows form (pos 1) at f (omega (arith, ints)) (es, rs))

-- a legal row is kept
pub legal_kept : (m : ℕ) (d : Dependence) (r : Row) → Suits d r → IsLegal m r d → IsKept m r d
legal_kept m d r s f params x y size h =
    let v = distance-value m d r params h.bound x y h.bound_size h.source h.target h.source_size h.target_size s in
    let k = farkas_at d (distance (binds_in d) m (unknowns_of d r)) params x y f h in
    omega (arith, ints)

slack_value : (d : Dependence) (r : Row) (params bound : List ℤ) (x y : Instance) → length bound ≡ binds_in d
    → x.number ≡ d.source.statement → y.number ≡ d.target.statement → length x.turns ≡ d.source.loops
    → length y.turns ≡ d.target.loops
    → Suits d r → value_of (slack (binds_in d) (unknowns_of d r)) (point_of params bound x y)
    ≡ (dot r.u params +ℤ r.w) -ℤ (phi r y -ℤ phi r x)
slack_value d r params bound x y lb hs ht ls lt h =
    let p = part_of r d.source.statement in
    let q = part_of r d.target.statement in
    let ps : part_of r x.number ≡ p = ap (λ (s : ℕ). part_of r s) hs in
    let pt : part_of r y.number ≡ q = ap (λ (s : ℕ). part_of r s) ht in
    let n = binds_in d in
    let a = dot-append p.coefficients (multiples (negsuc 0) q.coefficients ++ (zeros n ++ r.u)) x.turns
    (y.turns ++ (bound ++ params)) (h.0 ∙ sym ls) in
    let e = dot-append (zeros n) r.u bound params (length-zeros n ∙ sym lb) in
    let o = dot-zeros n bound in
    let b = dot-append (multiples (negsuc 0) q.coefficients) (zeros n ++ r.u) y.turns (bound ++ params)
    (length-multiples (negsuc 0) q.coefficients ∙ (h.1 ∙ sym lt)) in
    let c = dot-multiples (negsuc 0) q.coefficients y.turns in
    let fx : phi r x ≡ dot p.coefficients x.turns +ℤ p.shift =
    ap (λ k. dot k.coefficients x.turns +ℤ k.shift) ps in
    let fy : phi r y ≡ dot q.coefficients y.turns +ℤ q.shift =
    ap (λ k. dot k.coefficients y.turns +ℤ k.shift) pt in
    omega (arith, ints)

-- no pair's distance is above u.n + w
pub bounded_distance : (d : Dependence) (r : Row) (params : List ℤ) (x y : Instance) → Suits d r
    → IsBounded r d → Relates params d x y
    → (phi r y -ℤ phi r x) ≤ℤ (dot r.u params +ℤ r.w)
bounded_distance d r params x y s f h =
    let v = slack_value d r params h.bound x y h.bound_size h.source h.target h.source_size h.target_size s in
    let k = farkas_at d (slack (binds_in d) (unknowns_of d r)) params x y f h in
    omega (arith, ints)
