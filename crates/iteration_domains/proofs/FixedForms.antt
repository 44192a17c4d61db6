-- Forms over a statement's turns alone: their lengths and sizes, and the values of forms and systems over them.
use Rattle.scop_syntax.proofs.Common.{◌≡◌, ℕ, ◌+◌, ◌*◌, ◌^◌, ◌≤◌, ℤ, pos, negsuc, List, [], ◌∷◌, ◌++◌, length, map, ap}
use Rattle.scop_syntax.proofs.Common.{ap₂, subst, sym, ◌∙◌, refl, arith, length-append, ◌≤ℤ◌, ◌+ℤ◌, ◌*ℤ◌, neg_ℤ, All}
use Rattle.scop_syntax.proofs.Common.{◌↔◌, ints, map-append, length-map, All-nil, All-cons, All-head}
use Rattle.scop_syntax.proofs.Common.{All-tail, All-append, zeros, multiples, Affine, value_of, form_of}
use Rattle.scop_syntax.proofs.Common.{multiple_of_form, sum_of_forms, dot-zeros, length-multiples, length-sums}
use Rattle.scop_syntax.proofs.Common.{length-zeros, value_of-sum, value_of-multiple, value_of-composed, values}
use Rattle.scop_syntax.proofs.Common.{AreAtMost, AreInRange, IsForm, IsInRange, most_parameter, parameter_size}
use Rattle.integer_sets.specs.Constraints.{Constraints, IsSized}
use Rattle.integer_sets.specs.Parts.{variables_of}
use Rattle.integer_sets.specs.Points.{Satisfies}
use Rattle.iteration_domains.specs.Rows.{variables}
use Rattle.iteration_domains.specs.Outside.{Side, below, past, IsOutside, outside_row, fixed, fixed_forms, fixed_domain}
use Rattle.iteration_domains.specs.Outside.{outside_system}
use Rattle.iteration_domains.specs.Sizes.{CanCompose, IsNarrow, form_size, forms_size, size}
use Rattle.iteration_domains.specs.steps.Asking.{AreFixed}
use Rattle.iteration_domains.proofs.AddedConstraints.{row_points}
use Rattle.iteration_domains.proofs.RowLaws.{goes_on_last, values-variables}
use Rattle.iteration_domains.proofs.Sizes.{size-zeros, size-variables, size-composed}
use Rattle.iteration_domains.proofs.Surroundings.{length-composed, length-variables, sized-variables}

pub length-fixed : (d : ℕ) (params : List ℤ) → length (fixed_forms d params) ≡ d + length params
length-fixed d params =
    let a = length-append (variables d 0 d) (map (form_of (zeros d)) params) in
    let v = length-variables d 0 d in
    let c = length-map params (form_of (zeros d)) in
    omega (arith, a, v, c)

sizes-constants : (d : ℕ) (ps : List ℤ) → AreInRange ps
    → forms_size (map (form_of (zeros d)) ps) ≤ most_parameter * length ps
sizes-constants d [] all = omega arith
sizes-constants d (p ∷ ps) all =
    let z = size-zeros d in
    let own = parameter_size p (All-head IsInRange p ps all) in
    let rest = sizes-constants d ps (All-tail IsInRange p ps all) in
    omega arith

sizes-join : (fs gs : List Affine) → forms_size (fs ++ gs) ≡ forms_size fs + forms_size gs
sizes-join [] gs = omega arith
sizes-join (f ∷ fs) gs = let r = sizes-join fs gs in omega arith

sized-constants : (d : ℕ) (ps : List ℤ) → All (λ f. variables_of f ≡ d) (map (form_of (zeros d)) ps)
sized-constants d [] = All-nil (λ f. variables_of f ≡ d)
sized-constants d (p ∷ ps) =
    All-cons (λ f. variables_of f ≡ d) (form_of (zeros d) p) (map (form_of (zeros d)) ps) (length-zeros d)
    (sized-constants d ps)

pub are_fixed : (d : ℕ) (params : List ℤ) → d ≤ 5 → length params ≤ 4 → AreInRange params
    → AreFixed d (fixed_forms d params)
are_fixed d params few four all =
    let v = size-variables d 0 d in
    let c = sizes-constants d params all in
    let j = sizes-join (variables d 0 d) (map (form_of (zeros d)) params) in
    record {
      sized = All-append (λ f. variables_of f ≡ d) (variables d 0 d) (map (form_of (zeros d)) params)
          (sized-variables d 0 d) (sized-constants d params);
      small = omega (arith, v, c, j, few, four);
    }

-- a narrow form can be composed with them, and stays small
at_most : (k : ℕ) (xs : List ℤ) → size xs ≤ k → AreAtMost k xs
at_most k [] h = tt
at_most k (x ∷ xs) h = (omega arith, at_most k xs (omega arith))

pub can_fix : (d : ℕ) (forms : List Affine) (f : Affine) → AreFixed d forms → IsNarrow (length forms) f
    → CanCompose d forms f
can_fix d forms f are narrow =
    let s = are.small in
    let n = narrow.numbers in
    record {
      count = sym narrow.variables;
      sized = are.sized;
      greatest = 2 ^ 46;
      entries = at_most (2 ^ 46) f.coefficients (omega arith);
      small = omega arith;
    }

pub size-fixed : (d : ℕ) (forms : List Affine) (f : Affine) → AreFixed d forms → IsNarrow (length forms) f
    → form_size (fixed d forms f) ≤ 2 ^ 80
size-fixed d forms f are narrow =
    let s = are.small in
    let n = narrow.numbers in
    let is : IsForm (length forms) (2 ^ 46) (2 ^ 46) f = record {
      entries = narrow.variables;
      coefficients = at_most (2 ^ 46) f.coefficients (omega arith);
      constant = omega arith;
    } in
    let c = size-composed (length forms) (2 ^ 46) (2 ^ 46) d forms f is in
    omega arith

pub sized-fixed : (d : ℕ) (forms fs : List Affine) → AreFixed d forms
    → All (λ f. variables_of f ≡ d) (map (fixed d forms) fs)
sized-fixed d forms [] are = All-nil (λ f. variables_of f ≡ d)
sized-fixed d forms (f ∷ fs) are =
    All-cons (λ f. variables_of f ≡ d) (fixed d forms f) (map (fixed d forms) fs) (length-composed d f forms are.sized)
    (sized-fixed d forms fs are)

pub domain_sized : (turns d : ℕ) (forms es rs fs gs : List Affine) → turns ≡ d → AreFixed d forms
    → fs ≡ map (fixed turns forms) es → gs ≡ map (fixed turns forms) rs → IsSized (turns + 0) fs gs
domain_sized turns d forms es rs fs gs same are e r =
    let none : turns ≡ turns + 0 = omega arith in
    let at = subst (λ (k : ℕ). AreFixed k forms) (sym same) are in
    subst (λ (k : ℕ). IsSized k fs gs) none
    (record {
      equalities_sized = subst (λ (hs : List Affine). All (λ f. variables_of f ≡ turns) hs) (sym e)
          (sized-fixed turns forms es at);
      rows_sized = subst (λ (hs : List Affine). All (λ f. variables_of f ≡ turns) hs) (sym r)
          (sized-fixed turns forms rs at);
    })

pub length-shifted : (n : ℕ) (k c : ℤ) (f : Affine) → variables_of f ≡ n
    → variables_of (sum_of_forms (form_of (zeros n) c) (multiple_of_form k f)) ≡ n
length-shifted n k c f size =
    length-sums (zeros n) (multiples k f.coefficients)
    (length-zeros n ∙ sym (length-multiples k f.coefficients ∙ size))
    ∙ length-zeros n

pub as_many : (d p : ℕ) (params : List ℤ) (forms : List Affine) → forms ≡ fixed_forms d params → p ≡ length params
    → d + p ≡ length forms
as_many d p params forms are count =
    ap (λ (k : ℕ). d + k) count ∙ sym (ap (λ (gs : List Affine). length gs) are ∙ length-fixed d params)

pub narrow_at : (d p : ℕ) (params : List ℤ) (forms fs : List Affine) → forms ≡ fixed_forms d params
    → p ≡ length params → All (IsNarrow (d + p)) fs → All (IsNarrow (length forms)) fs
narrow_at d p params forms fs are count all =
    subst (λ (n : ℕ). All (IsNarrow n) fs) (as_many d p params forms are count) all

-- the values of the forms are the turns and the parameters
values-constants : (d : ℕ) (ps xs : List ℤ) → values (map (form_of (zeros d)) ps) xs ≡ ps
values-constants d [] xs = refl
values-constants d (p ∷ ps) xs =
    let z = dot-zeros d xs in
    ap₂ (λ (y : ℤ) (ys : List ℤ). y ∷ ys) (omega (arith, ints)) (values-constants d ps xs)

pub values-fixed : (d : ℕ) (params xs : List ℤ) → length xs ≡ d → values (fixed_forms d params) xs ≡ xs ++ params
values-fixed d params xs l =
    map-append (λ form. value_of form xs) (variables d 0 d) (map (form_of (zeros d)) params)
    ∙ ap₂ (λ (ys zs : List ℤ). ys ++ zs) (values-variables d 0 d xs xs (sym l) l (goes_on_last [] xs))
    (values-constants d params xs)

-- a domain over turns alone holds where the domain does
fixed_to : (P : ℤ → Type 0) (d : ℕ) (forms fs : List Affine) (x : List ℤ)
    → All (λ f. P (value_of f x)) (map (fixed d forms) fs) → All (λ f. P (value_of f (values forms x))) fs
fixed_to P d forms [] x all = All-nil (λ (f : Affine). P (value_of f (values forms x)))
fixed_to P d forms (f ∷ fs) x all =
    let Q : Affine → Type 0 = λ f. P (value_of f x) in
    All-cons (λ (f : Affine). P (value_of f (values forms x))) f fs
    (subst P (value_of-composed f forms d x) (All-head Q (fixed d forms f) (map (fixed d forms) fs) all))
    (fixed_to P d forms fs x (All-tail Q (fixed d forms f) (map (fixed d forms) fs) all))

fixed_from : (P : ℤ → Type 0) (d : ℕ) (forms fs : List Affine) (x : List ℤ)
    → All (λ f. P (value_of f (values forms x))) fs → All (λ f. P (value_of f x)) (map (fixed d forms) fs)
fixed_from P d forms [] x all = All-nil (λ (f : Affine). P (value_of f x))
fixed_from P d forms (f ∷ fs) x all =
    let Q : Affine → Type 0 = λ f. P (value_of f (values forms x)) in
    All-cons (λ (f : Affine). P (value_of f x)) (fixed d forms f) (map (fixed d forms) fs)
    (subst P (sym (value_of-composed f forms d x)) (All-head Q f fs all))
    (fixed_from P d forms fs x (All-tail Q f fs all))

domain_to : (forms : List Affine) (s : Constraints) (x : List ℤ) → Satisfies (fixed_domain forms s) x
    → Satisfies s (values forms x)
domain_to forms s x h = (
  fixed_to (λ z. z ≡ pos 0) s.dimensions forms s.equalities x h.0,
  fixed_to (λ z. pos 0 ≤ℤ z) s.dimensions forms s.rows x h.1,
)

domain_from : (forms : List Affine) (s : Constraints) (x : List ℤ) → Satisfies s (values forms x)
    → Satisfies (fixed_domain forms s) x
domain_from forms s x h = (
  fixed_from (λ z. z ≡ pos 0) s.dimensions forms s.equalities x h.0,
  fixed_from (λ z. pos 0 ≤ℤ z) s.dimensions forms s.rows x h.1,
)

-- the row holds where the form's value lies outside
value_of-shifted : (d : ℕ) (k c : ℤ) (f : Affine) (x : List ℤ)
    → value_of (form_of (zeros d) c) x +ℤ value_of (multiple_of_form k f) x ≡ c +ℤ (k *ℤ value_of f x)
value_of-shifted d k c f x =
    let z = dot-zeros d x in
    let m = value_of-multiple k f x in
    omega (arith, ints)

row_to : (d : ℕ) (f : Affine) (e : ℕ) (side : Side) (x : List ℤ) → pos 0 ≤ℤ value_of (outside_row d f e side) x
    → IsOutside (value_of f x) e side
row_to d f e below x h =
    let s = value_of-sum (form_of (zeros d) (negsuc 0)) (multiple_of_form (negsuc 0) f) x in
    let v = value_of-shifted d (negsuc 0) (negsuc 0) f x in
    omega (arith, ints)
row_to d f e past x h =
    let s = value_of-sum (form_of (zeros d) (neg_ℤ (pos e))) (multiple_of_form (pos 1) f) x in
    let v = value_of-shifted d (pos 1) (neg_ℤ (pos e)) f x in
    omega (arith, ints)

row_from : (d : ℕ) (f : Affine) (e : ℕ) (side : Side) (x : List ℤ) → IsOutside (value_of f x) e side
    → pos 0 ≤ℤ value_of (outside_row d f e side) x
row_from d f e below x h =
    let s = value_of-sum (form_of (zeros d) (negsuc 0)) (multiple_of_form (negsuc 0) f) x in
    let v = value_of-shifted d (negsuc 0) (negsuc 0) f x in
    omega (arith, ints)
row_from d f e past x h =
    let s = value_of-sum (form_of (zeros d) (neg_ℤ (pos e))) (multiple_of_form (pos 1) f) x in
    let v = value_of-shifted d (pos 1) (neg_ℤ (pos e)) f x in
    omega (arith, ints)

-- a system's points, at turns: those of the domain at which the subscript lies outside
pub outside_points : (domain : Constraints) (params xs : List ℤ) (f : Affine) (e : ℕ) (side : Side)
    → length xs ≡ domain.dimensions
    → Satisfies (outside_system (fixed_domain (fixed_forms domain.dimensions params) domain)
    (fixed domain.dimensions (fixed_forms domain.dimensions params) f) e side) xs
    ↔ (Satisfies domain (xs ++ params) × IsOutside (value_of f (xs ++ params)) e side)
outside_points domain params xs f e side l =
    let d = domain.dimensions in
    let forms = fixed_forms d params in
    let at = fixed_domain forms domain in
    let row = outside_row d (fixed d forms f) e side in
    let points = row_points at (outside_system at (fixed d forms f) e side) row refl xs in
    let v = values-fixed d params xs l in
    let value : value_of (fixed d forms f) xs ≡ value_of f (xs ++ params) =
    value_of-composed f forms d xs ∙ ap (value_of f) v in (
      λ h.
          let both = points.0 h in (
            subst (Satisfies domain) v (domain_to forms domain xs both.0),
            subst (λ z. IsOutside z e side) value (row_to d (fixed d forms f) e side xs both.1),
          ),
      λ both. points.1 (
        domain_from forms domain xs (subst (Satisfies domain) (sym v) both.0),
        row_from d (fixed d forms f) e side xs (subst (λ z. IsOutside z e side) (sym value) both.1),
      ),
    )
