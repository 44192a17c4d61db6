-- Rows appended to rows.
use Rattle.scop_syntax.proofs.Common.{length-append, ◌+◌, ◌≡◌, ℕ, zero, suc, ◌-◌, ◌<◌, ℤ, pos, negsuc, List, [], ◌∷◌}
use Rattle.scop_syntax.proofs.Common.{◌++◌, length, get_or, refl, ap, subst, sym, ◌∙◌, All, arith, ◌≤◌, ◌^◌, ◌≤ℤ◌, Some}
use Rattle.scop_syntax.proofs.Common.{unsigned_abs, ints, Affine, value_of, multiple_of_form, length-multiples}
use Rattle.affine_forms.specs.Parts.{variables_of}
use Rattle.integer_sets.specs.Constraints.{Constraints, variables_in}
use Rattle.integer_sets.specs.Points.{Satisfies}
use Rattle.integer_sets.specs.Scanned.{Scanned}
use Rattle.fm_projection.specs.Projecting.{projected, all_gone}
use Rattle.fm_projection.specs.Alone.{ranged}
use Rattle.fm_projection.proofs.EliminationRuns.{gone_dimensions}
use Rattle.plain_scan.specs.Between.{HasSmallNumbers}
use Rattle.plain_scan.specs.declared.outline.Shadow.{Shadow}
use Rattle.plain_scan.specs.declared.numbers.Numbers.{Numbers}
use Rattle.plain_scan.specs.steps.Numbers.{IsAtLeast, IsAtMost, IsSmallIf, LiesBetween, AreSmall}
use Rattle.fm_projection.proofs.WholePoints.{one_more}
use Rattle.traced_projections.specs.declared.projections.Projection.{Projection}
use Rattle.traced_projections.specs.declared.projections.Projection.TheVariants as projection
use Rattle.traced_projections.specs.Projections.{LastFollows, alone_of, last_traced, ranged_traced, system_in}
use Rattle.traced_projections.specs.Projections.{without_of}
use Rattle.traced_projections.proofs.Runs.{traced_dimensions, traced_parameters}
use Rattle.plain_scan.specs.Sets.{IsKeyOf}
use Rattle.plain_scan.specs.steps.Shadows.{IsShadow, IsRow, IsEquality, IsShadowIn}
use Rattle.plain_scan.specs.Outlines.{IsShadowOf, projection_at}
use Rattle.plain_scan.proofs.Rows.{negated}

pub row_of_equality : (t : Constraints) (f : Affine) → IsEquality t f → HasSmallNumbers f → IsRow t f
row_of_equality t f h small =
    record {
      sized = h.sized;
      small = small;
      holds = λ point s. let e = h.holds point s in omega (arith, ints, e);
    }

pub other_of_equality : (t : Constraints) (f : Affine) → IsEquality t f
    → HasSmallNumbers (multiple_of_form (negsuc 0) f) → IsRow t (multiple_of_form (negsuc 0) f)
other_of_equality t f h small =
    record {
      sized = length-multiples (negsuc 0) f.coefficients ∙ h.sized;
      small = small;
      holds = λ point s. let e = h.holds point s in let n = negated f point in omega (arith, ints, e, n);
    }

-- the last dimension alone is one
pub alone_shape : (p : Projection) → 0 < (system_in p).dimensions → ((alone_of p).dimensions ≡ 1)
    × ((alone_of p).parameters ≡ 0)
alone_shape (projection.Traced t) some =
    let a = traced_dimensions 1 t.parameters (last_traced t) in
    let b = traced_dimensions 0 (t.dimensions - 1) (ranged_traced t) in
    let all : (ranged_traced t).dimensions ≡ t.dimensions + t.parameters = refl in (
      omega (arith, a, b, all, some),
      traced_parameters 1 t.parameters (last_traced t) ∙ traced_parameters 0 (t.dimensions - 1) (ranged_traced t),
    )
alone_shape (projection.Exact t) some =
    let a = gone_dimensions 1 t.parameters (all_gone 0 (t.dimensions - 1) (ranged t)) in
    let b = gone_dimensions 0 (t.dimensions - 1) (ranged t) in (
      omega (arith, a, b, some),
      parameters 1 t.parameters (all_gone 0 (t.dimensions - 1) (ranged t))
          ∙ parameters 0 (t.dimensions - 1) (ranged t),
    )
  where
    parameters : (i n : ℕ) (s : Constraints) → (all_gone i n s).parameters ≡ s.parameters
    parameters i zero s = refl
    parameters i (suc n) s = parameters i n s

pub projected_shape : (n : ℕ) (s : Constraints) → ((projected n s).dimensions ≡ s.dimensions - n)
    × ((projected n s).parameters ≡ s.parameters)
projected_shape zero s = (omega arith, refl)
projected_shape (suc n) s = let more = projected_shape n s in let d = more.0 in (omega (arith, d), more.1)

pub projection_shape : (n : ℕ) (p : Projection)
    → ((system_in (projection_at n p)).dimensions ≡ (system_in p).dimensions - n)
    × ((system_in (projection_at n p)).parameters ≡ (system_in p).parameters)
projection_shape zero p = (omega arith, refl)
projection_shape (suc n) p =
    let more = projection_shape n p in
    let one = without_shape ((system_in p).dimensions - suc n) (projection_at n p) in
    let d = more.0 in
    let e = one.0 in
    (omega (arith, d, e), one.1 ∙ more.1)
  where
    without_shape : (i : ℕ) (q : Projection) → ((system_in (without_of i q)).dimensions ≡ (system_in q).dimensions - 1)
        × ((system_in (without_of i q)).parameters ≡ (system_in q).parameters)
    without_shape i (projection.Exact s) = (refl, refl)
    without_shape i (projection.Traced t) = (refl, refl)

-- a shadow of a projection that has the first values of each key, and of what is left of its last dimension alone
pub shadow_at : (n m : ℕ) (s : Scanned) (t last : Constraints) (d : Shadow) → suc m + n ≡ s.system.dimensions
    → t.dimensions ≡ suc m → t.parameters ≡ s.system.parameters → IsShadow (suc m) s t → LastFollows t last
    → IsShadowIn t last d → IsShadowOf n s d
shadow_at n m s t last d count dims params shadow follows h = record {
  rows = λ k e inside.
      let row = h.rows k e inside in
      let wide = row.sized in
      record {
        sized = omega (arith, wide, dims, params, count);
        small = row.small;
        holds = λ ps outer r range size key.
            row.holds (outer ++ ps) (shadow ps outer r (omega (arith, size, count)) key);
      };
  between = λ ps outer x r range size key.
      let long : length (outer ++ x ∷ []) ≡ suc m =
      omega (arith, length-append outer (x ∷ []), size, count) in
      let there = shadow ps (outer ++ x ∷ []) r long (subst (IsKeyOf ps s) (sym (one_more outer x r)) key) in
      h.between x (follows outer x ps (omega (arith, dims, size, count)) range
      (subst (Satisfies t) (one_more outer x ps) there));
  small = h.small;
}

-- one element more
at_end : (Q : ℕ → Shadow → Type 0) (xs : List Shadow) (h : Shadow)
    → ((n : ℕ) (d : Shadow) → n < length xs → Q n (get_or xs n d))
    → Q (length xs) h → (n : ℕ) (d : Shadow) → n < length (xs ++ h ∷ []) → Q n (get_or (xs ++ h ∷ []) n d)
at_end Q [] h all one zero d inside = one
at_end Q [] h all one (suc n) d inside = absurd (omega (arith, inside))
at_end Q (x ∷ xs) h all one zero d inside = all 0 d (omega arith)
at_end Q (x ∷ xs) h all one (suc n) d inside =
    at_end (λ k. Q (suc k)) xs h (λ k e i. all (suc k) e (omega (arith, i))) one n d (omega (arith, inside))

pub one_shadow : (s : Scanned) (old new : List Shadow) (h : Shadow) → new ≡ old ++ h ∷ []
    → ((n : ℕ) (d : Shadow) → n < length old → IsShadowOf n s (get_or old n d))
    → IsShadowOf (length old) s h
    → (n : ℕ) (d : Shadow) → n < length new → IsShadowOf n s (get_or new n d)
one_shadow s old new h is each one =
    subst (λ xs. (n : ℕ) (d : Shadow) → n < length xs → IsShadowOf n s (get_or xs n d)) (sym is)
    (at_end (λ n. IsShadowOf n s) old h each one)

pub low_high : (n : Numbers) (low high x : ℤ) → n.low ≡ Some low → n.high ≡ Some high → LiesBetween n x → (low ≤ℤ x)
    × (x ≤ℤ high)
low_high n low high x l h b = (subst (λ o. IsAtLeast o x) l b.0, subst (λ o. IsAtMost o x) h b.1)

pub small_both : (n : Numbers) (low high : ℤ) → n.low ≡ Some low → n.high ≡ Some high → AreSmall n
    → (unsigned_abs low ≤ 2 ^ 40) × (unsigned_abs high ≤ 2 ^ 40)
small_both n low high l h b = (subst IsSmallIf l b.0, subst IsSmallIf h b.1)

pub equality_at : (s : Constraints) (fs : List Affine) (k : ℕ) (f : Affine) → f ≡ get_or fs k f → fs ≡ s.equalities
    → All (λ g. variables_of g ≡ variables_in s) fs
    → k < length fs → IsEquality s f
equality_at s fs k f is e sized inside = record {
  sized = ap variables_of is ∙ sized k f inside;
  holds = λ point h. subst (λ g. value_of g point ≡ pos 0) (sym is)
      ((subst (λ gs. All (λ g. value_of g point ≡ pos 0) gs) (sym e) h.0) k f inside);
}

pub row_at : (s : Constraints) (fs : List Affine) (k : ℕ) (f : Affine) → f ≡ get_or fs k f → fs ≡ s.rows
    → All (λ g. variables_of g ≡ variables_in s) fs
    → k < length fs → HasSmallNumbers f → IsRow s f
row_at s fs k f is e sized inside small =
    record {
      sized = ap variables_of is ∙ sized k f inside;
      small = small;
      holds = λ point h. subst (λ g. pos 0 ≤ℤ value_of g point) (sym is)
          ((subst (λ gs. All (λ g. pos 0 ≤ℤ value_of g point) gs) (sym e) h.1) k f inside);
    }

pub row_holds_at : (s : Constraints) (fs : List Affine) (k : ℕ) (f : Affine) → f ≡ get_or fs k f → fs ≡ s.rows
    → k < length fs → (point : List ℤ) → Satisfies s point → pos 0 ≤ℤ value_of f point
row_holds_at s fs k f is e inside point h =
    subst (λ g. pos 0 ≤ℤ value_of g point) (sym is)
    ((subst (λ gs. All (λ g. pos 0 ≤ℤ value_of g point) gs) (sym e) h.1) k f inside)
