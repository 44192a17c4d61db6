-- A pair of instances is a whole point of the system of a leaf just where it is one of its parts.
use Rattle.scop_syntax.proofs.Common.{◌≡◌, ℕ, ◌+◌, ℤ, pos, ◌≤ℤ◌, List, [], ◌∷◌, ◌++◌, length, map, All, sym, ap, ap₂}
use Rattle.scop_syntax.proofs.Common.{subst, ◌∙◌, refl, arith, length-append, All-append, All-cons, All-map, All-nil}
use Rattle.scop_syntax.proofs.Common.{Affine, value_of, NotNegative, all_back, all_front, all_unmapped, values}
use Rattle.std.proofs.lemmas.List.{append_assoc}
use Rattle.integer_sets.specs.Points.{Satisfies}
use Rattle.iteration_domains.specs.Rows.{variables}
use Rattle.iteration_domains.proofs.Points.{satisfied}
use Rattle.iteration_domains.proofs.RowLaws.{GoesOn, goes_on_last, values-variables}
use Rattle.conflict_deps.specs.Conflicts.{Side, loops_of, same_subscripts}
use Rattle.conflict_deps.proofs.Orders.{same_of, value_of-source, value_of-target}
use Rattle.dataflow.specs.Leaves.{bound_target, cell_equalities, first_form, pair_equalities, pair_rows, second_form}

abbrev pub Zero : List Affine → List ℤ → Type 0
Zero fs x = All (λ f. value_of f x ≡ pos 0) fs

abbrev pub Up : List Affine → List ℤ → Type 0
Up fs x = All (λ f. pos 0 ≤ℤ value_of f x) fs

-- forms that have the values of others
zero_mapped : (h : Affine → Affine) (fs : List Affine) (x y : List ℤ) → ((f : Affine) → value_of (h f) x ≡ value_of f y)
    → Zero fs y → Zero (map h fs) x
zero_mapped h fs x y same holds =
    All-map (λ f. value_of f x ≡ pos 0) h fs (λ k f lt. same _ ∙ holds k f lt)

up_mapped : (h : Affine → Affine) (fs : List Affine) (x y : List ℤ) → ((f : Affine) → value_of (h f) x ≡ value_of f y)
    → Up fs y → Up (map h fs) x
up_mapped h fs x y same holds =
    All-map (λ f. pos 0 ≤ℤ value_of f x) h fs (λ k f lt. subst (λ (z : ℤ). pos 0 ≤ℤ z) (sym (same _)) (holds k f lt))

zero_unmapped : (h : Affine → Affine) (fs : List Affine) (x y : List ℤ)
    → ((f : Affine) → value_of (h f) x ≡ value_of f y) → Zero (map h fs) x → Zero fs y
zero_unmapped h fs x y same holds =
    λ k f lt. sym (same _) ∙ all_unmapped (λ f. value_of f x ≡ pos 0) h fs holds k f lt

up_unmapped : (h : Affine → Affine) (fs : List Affine) (x y : List ℤ)
    → ((f : Affine) → value_of (h f) x ≡ value_of f y) → Up (map h fs) x → Up fs y
up_unmapped h fs x y same holds =
    λ k f lt. subst (λ (z : ℤ). pos 0 ≤ℤ z) (same _) (all_unmapped (λ f. pos 0 ≤ℤ value_of f x) h fs holds k f lt)

up_values : (fs : List Affine) (x : List ℤ) → NotNegative (values fs x) → Up fs x
up_values [] x h = All-nil (λ f. pos 0 ≤ℤ value_of f x)
up_values (f ∷ fs) x h = All-cons (λ f. pos 0 ≤ℤ value_of f x) f fs h.0 (up_values fs x h.1)

-- the turns of both, the quotients that are bound, then the parameters
abbrev pub pair_point : List ℤ → List ℤ → List ℤ → List ℤ → List ℤ
pair_point xs ys qs params = xs ++ (ys ++ (qs ++ params))

first_value : (s t : Side) (xs ys qs params : List ℤ) (f : Affine) → length xs ≡ loops_of s → length ys ≡ loops_of t
    → value_of (first_form (length qs) s t f) (pair_point xs ys qs params) ≡ value_of f (xs ++ params)
first_value s t xs ys qs params f l k =
    let a = length-append ys qs in
    ap (λ (us : List ℤ). value_of (first_form (length qs) s t f) (xs ++ us)) (sym (append_assoc ys qs params))
    ∙ value_of-source (loops_of s) (loops_of t + length qs) f xs (ys ++ qs) params l (omega (arith, a, k))

bound_value : (t : Side) (ys qs params : List ℤ) (f : Affine) → length ys ≡ loops_of t
    → value_of (bound_target (length qs) t f) (ys ++ (qs ++ params)) ≡ value_of f (ys ++ params)
bound_value t ys qs params f k = value_of-source (loops_of t) (length qs) f ys qs params k refl

second_value : (s t : Side) (xs ys qs params : List ℤ) (f : Affine) → length xs ≡ loops_of s
    → length ys ≡ loops_of t
    → value_of (second_form (length qs) s t f) (pair_point xs ys qs params) ≡ value_of f (ys ++ params)
second_value s t xs ys qs params f l k =
    value_of-target (loops_of s) (bound_target (length qs) t f) xs (ys ++ (qs ++ params)) l
    ∙ bound_value t ys qs params f k

values_bound : (t : Side) (ys qs params : List ℤ) (fs : List Affine) → length ys ≡ loops_of t
    → values (map (bound_target (length qs) t) fs) (ys ++ (qs ++ params)) ≡ values fs (ys ++ params)
values_bound t ys qs params [] k = refl
values_bound t ys qs params (f ∷ fs) k =
    ap₂ (λ (z : ℤ) (zs : List ℤ). z ∷ zs) (bound_value t ys qs params f k) (values_bound t ys qs params fs k)

-- one cell, by equal subscripts
cells_zero : (s t : Side) (xs ys qs params : List ℤ) → length xs ≡ loops_of s → length ys ≡ loops_of t
    → values s.access.subscripts (xs ++ params) ≡ values t.access.subscripts (ys ++ params)
    → Zero (cell_equalities (length qs) s t) (pair_point xs ys qs params)
cells_zero s t xs ys qs params l k same =
    let x = pair_point xs ys qs params in
    let d = loops_of s in
    let e = loops_of t + length qs in
    let fs = s.access.subscripts in
    let gs = map (bound_target (length qs) t) t.access.subscripts in
    (satisfied 0 0 (same_subscripts d e fs gs) x
    (same_of d e fs gs x (xs ++ params) (ys ++ (qs ++ params))
    (λ f. first_value s t xs ys qs params f l k)
    (λ f. value_of-target d f xs (ys ++ (qs ++ params)) l)
    (same ∙ sym (values_bound t ys qs params t.access.subscripts k)))).0

-- no parameter is negative
parameters_up : (d : ℕ) (front params : List ℤ) → length front ≡ d → NotNegative params
    → Up (variables (d + length params) d (length params)) (front ++ params)
parameters_up d front params l up =
    let a = length-append front params in
    up_values (variables (d + length params) d (length params)) (front ++ params)
    (subst NotNegative
    (sym (values-variables (d + length params) d (length params) (front ++ params) params (omega (arith, a, l)) refl
    (subst (λ (k : ℕ). GoesOn (front ++ params) k params) l (goes_on_last front params)))) up)

-- what is needed of a source and a target, and of the leaf between them
pub record IsLeafPair (s t : Side) (xs ys qs params : List ℤ) (forms rows : List Affine) : Type 0 where
  pub source_size : length xs ≡ loops_of s
  pub target_size : length ys ≡ loops_of t
  pub source : Satisfies s.statement.domain (xs ++ params)
  pub target : Satisfies t.statement.domain (ys ++ params)
  pub cell : values s.access.subscripts (xs ++ params) ≡ values t.access.subscripts (ys ++ params)
  pub up : NotNegative params
  pub turn : Zero forms (pair_point xs ys qs params)
  pub path : Up rows (pair_point xs ys qs params)

pub pair_zero : (s t : Side) (xs ys qs params : List ℤ) (turns path : List Affine)
    → IsLeafPair s t xs ys qs params turns path
    → Zero (pair_equalities (length qs) s t turns) (pair_point xs ys qs params)
pair_zero s t xs ys qs params turns path is =
    let x = pair_point xs ys qs params in
    let k = length qs in
    let P = λ (f : Affine). value_of f x ≡ pos 0 in
    let E = map (first_form k s t) s.statement.domain.equalities in
    let F = map (second_form k s t) t.statement.domain.equalities in
    let C = cell_equalities k s t in
    All-append P E (F ++ (turns ++ C))
    (zero_mapped (first_form k s t) s.statement.domain.equalities x (xs ++ params)
    (λ f. first_value s t xs ys qs params f is.source_size is.target_size) is.source.0)
    (All-append P F (turns ++ C)
    (zero_mapped (second_form k s t) t.statement.domain.equalities x (ys ++ params)
    (λ f. second_value s t xs ys qs params f is.source_size is.target_size) is.target.0)
    (All-append P turns C is.turn (cells_zero s t xs ys qs params is.source_size is.target_size is.cell)))

pub pair_up : (s t : Side) (xs ys qs params : List ℤ) (turns path : List Affine)
    → IsLeafPair s t xs ys qs params turns path
    → Up (pair_rows (length params) (length qs) s t path) (pair_point xs ys qs params)
pair_up s t xs ys qs params turns path is =
    let x = pair_point xs ys qs params in
    let k = length qs in
    let m = length params in
    let d = loops_of s + loops_of t + k in
    let P = λ (f : Affine). pos 0 ≤ℤ value_of f x in
    let R = map (first_form k s t) s.statement.domain.rows in
    let S = map (second_form k s t) t.statement.domain.rows in
    let V = variables (d + m) d m in
    let front = xs ++ (ys ++ qs) in
    let a = length-append xs (ys ++ qs) in
    let b = length-append ys qs in
    let l = is.source_size in
    let r = is.target_size in
    let long : length front ≡ d = omega (arith, a, b, l, r) in
    let whole : front ++ params ≡ x =
    append_assoc xs (ys ++ qs) params ∙ ap (λ (us : List ℤ). xs ++ us) (append_assoc ys qs params) in
    All-append P R (S ++ (path ++ V))
    (up_mapped (first_form k s t) s.statement.domain.rows x (xs ++ params)
    (λ f. first_value s t xs ys qs params f is.source_size is.target_size) is.source.1)
    (All-append P S (path ++ V)
    (up_mapped (second_form k s t) t.statement.domain.rows x (ys ++ params)
    (λ f. second_value s t xs ys qs params f is.source_size is.target_size) is.target.1)
    (All-append P path V is.path (subst (Up V) whole (parameters_up d front params long is.up))))

-- the parts of such a point
pub record HoldsPair (s t : Side) (xs ys qs params : List ℤ) (forms rows : List Affine) : Type 0 where
  pub source : Satisfies s.statement.domain (xs ++ params)
  pub target : Satisfies t.statement.domain (ys ++ params)
  pub turn : Zero forms (pair_point xs ys qs params)
  pub path : Up rows (pair_point xs ys qs params)

pub pair_parts : (m k : ℕ) (s t : Side) (xs ys qs params : List ℤ) (turns path : List Affine)
    → length qs ≡ k → length xs ≡ loops_of s → length ys ≡ loops_of t
    → Zero (pair_equalities k s t turns) (pair_point xs ys qs params)
    → Up (pair_rows m k s t path) (pair_point xs ys qs params)
    → HoldsPair s t xs ys qs params turns path
pair_parts m k s t xs ys qs params turns path size l r flat up =
    let x = pair_point xs ys qs params in
    let d = loops_of s + loops_of t + k in
    let P = λ (f : Affine). value_of f x ≡ pos 0 in
    let Q = λ (f : Affine). pos 0 ≤ℤ value_of f x in
    let E = map (first_form k s t) s.statement.domain.equalities in
    let F = map (second_form k s t) t.statement.domain.equalities in
    let C = cell_equalities k s t in
    let R = map (first_form k s t) s.statement.domain.rows in
    let S = map (second_form k s t) t.statement.domain.rows in
    let V = variables (d + m) d m in
    let first = λ (f : Affine). subst (λ (i : ℕ). value_of (first_form i s t f) x ≡ value_of f (xs ++ params)) size
    (first_value s t xs ys qs params f l r) in
    let second = λ (f : Affine). subst (λ (i : ℕ). value_of (second_form i s t f) x ≡ value_of f (ys ++ params)) size
    (second_value s t xs ys qs params f l r) in
    let more_zero = all_back P E (F ++ (turns ++ C)) flat in
    let more_up = all_back Q R (S ++ (path ++ V)) up in
    record {
      source = (
        zero_unmapped (first_form k s t) s.statement.domain.equalities x (xs ++ params) first
            (all_front P E (F ++ (turns ++ C)) flat),
        up_unmapped (first_form k s t) s.statement.domain.rows x (xs ++ params) first
            (all_front Q R (S ++ (path ++ V)) up),
      );
      target = (
        zero_unmapped (second_form k s t) t.statement.domain.equalities x (ys ++ params) second
            (all_front P F (turns ++ C) more_zero),
        up_unmapped (second_form k s t) t.statement.domain.rows x (ys ++ params) second
            (all_front Q S (path ++ V) more_up),
      );
      turn = all_front P turns C (all_back P F (turns ++ C) more_zero);
      path = all_front Q path V (all_back Q S (path ++ V) more_up);
    }
