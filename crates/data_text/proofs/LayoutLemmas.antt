-- The layout of a kernel: how large it is, and that its extents are positive.
use Rattle.scop_syntax.proofs.Common.{◌≡◌, refl, ℕ, zero, suc, ◌+◌, ◌*◌, ◌^◌, ◌≤◌, Bool, true, false, if◌then◌else◌}
use Rattle.scop_syntax.proofs.Common.{List, [], ◌∷◌, map, length, arith, ℤ, pos, negsuc, ◌≤ℤ◌, int_le, All, IfSome}
use Rattle.scop_syntax.proofs.Common.{Option, Some, None, unsigned_abs, ints, length-map, All-cons, Affine, value_of}
use Rattle.scop_syntax.proofs.Common.{Declaration, values, size_of, AreInRange, IsAffine, IsDeclaration, IsInRange}
use Rattle.scop_syntax.proofs.Common.{most_parameter}
use Rattle.std.proofs.Common.{leb-true}
use Rattle.data_lines.specs.Sheets.{AreSmall}
use Rattle.data_lines.specs.declared.refusal.DataRefusal.{DataRefusal}
use Rattle.data_lines.specs.declared.refusal.DataRefusal.TheVariants.{Extent}
use Rattle.data_text.specs.Cases.{bad_dimension, bad_extent, or_else, param_of, params_of}
use Rattle.data_text.specs.steps.Conditions.{AreParameters, AreSizes, AreLayouts}
use Rattle.data_text.proofs.ExtentLemmas.{value_small}

-- a list behind its first
all_tail : {X : Type 0} (P : X → Type 0) (x : X) (xs : List X) → All P (x ∷ xs) → All P xs
all_tail P x xs all k d within = all (suc k) d (omega (arith, within))

all_none : {X : Type 0} (P : X → Type 0) → All P (let e : List X = [] in e)
all_none P k d within = absurd (omega (arith, within))

abbrev IsLow : Option ℕ → Type 0
IsLow value = IfSome value (λ n. n ≤ most_parameter)

abbrev IsPositive : List ℤ → Affine → Type 0
IsPositive params form = pos 1 ≤ℤ value_of form params

abbrev ArePositive : List ℤ → Declaration → Type 0
ArePositive params d = All (IsPositive params) d.extents

abbrev IsSize : ℕ → Type 0
IsSize e = e ≤ 2 ^ 23

-- the values of the parameters lie in range
param_lies : (value : Option ℕ) → IsLow value → IsInRange (param_of value)
param_lies (Some n) small = (omega (arith, ints), omega (arith, ints, small))
param_lies None small = (omega (arith, ints), omega (arith, ints))

params_lie : (values : List (Option ℕ)) → AreSmall values → AreInRange (params_of values)
params_lie [] small = all_none IsInRange
params_lie (value ∷ values) small = All-cons IsInRange (param_of value) (params_of values)
    (param_lies value (small 0 None (omega arith))) (params_lie values (all_tail IsLow value values small))

pub are_parameters : (values : List (Option ℕ)) → AreSmall values → length values ≤ 4 → AreParameters (params_of values)
are_parameters values small few =
    record { few = omega (arith, few, length-map values param_of); values = params_lie values small }

-- sizes of extents
size_small : (z : ℤ) → unsigned_abs z ≤ 5 * 2 ^ 20 → size_of z ≤ 2 ^ 23
size_small (pos n) small = omega (arith, small)
size_small (negsuc n) small = omega arith

sizes_small : (params : List ℤ) (forms : List Affine) → AreParameters params → All (IsAffine (length params)) forms
    → All IsSize (map size_of (values forms params))
sizes_small params [] are all = all_none IsSize
sizes_small params (form ∷ forms) are all =
    All-cons IsSize (size_of (value_of form params)) (map size_of (values forms params))
    (size_small (value_of form params) (value_small form params (all 0 form (omega arith)) are))
    (sizes_small params forms are (all_tail (IsAffine (length params)) form forms all))

abbrev sizes_of : List ℤ → Declaration → List ℕ
sizes_of params d = map size_of (values d.extents params)

are_sizes : (params : List ℤ) (d : Declaration) → AreParameters params → IsDeclaration (length params) d
    → AreSizes (sizes_of params d)
are_sizes params d are is = record {
  few = omega (
    arith,
    is.few,
    length-map d.extents (λ form. value_of form params),
    length-map
        (values d.extents params) size_of,
  );
  sizes = sizes_small params d.extents are is.extents;
}

each_sizes : (params : List ℤ) (ds : List Declaration) → AreParameters params
    → All (IsDeclaration (length params)) ds → All AreSizes (map (sizes_of params) ds)
each_sizes params [] are all = all_none AreSizes
each_sizes params (d ∷ ds) are all = All-cons AreSizes (sizes_of params d) (map (sizes_of params) ds)
    (are_sizes params d are (all 0 d (omega arith)))
    (each_sizes params ds are (all_tail (IsDeclaration (length params)) d ds all))

pub are_layouts : (params : List ℤ) (ds : List Declaration) → AreParameters params
    → All (IsDeclaration (length params)) ds → length ds ≤ 16
    → AreLayouts (map (λ d. map size_of (values d.extents params)) ds)
are_layouts params ds are all few =
    record { few = omega (arith, few, length-map ds (sizes_of params)); each = each_sizes params ds are all }

-- no extent that is at most 0
none_first : (rule other : Option DataRefusal) → or_else rule other ≡ None → rule ≡ None
none_first None other none = refl
none_first (Some refusal) other none = cc

none_second : (rule other : Option DataRefusal) → or_else rule other ≡ None → other ≡ None
none_second None other none = none
none_second (Some refusal) other none = cc

not_refused : (low : Bool) (refusal : DataRefusal) (rest : Option DataRefusal) → (low ≡ true → ⊥)
    → (if low then Some refusal else rest) ≡ None → rest ≡ None
not_refused true refusal rest high none = absurd (high refl)
not_refused false refusal rest high none = none

positive : (z : ℤ) (refusal : DataRefusal) (rest : Option DataRefusal)
    → (if int_le z (pos 0) then Some refusal else rest) ≡ None → (pos 1 ≤ℤ z) × (rest ≡ None)
positive (pos zero) refusal rest none = cc
positive (pos (suc n)) refusal rest none = (
  omega (arith, ints),
  not_refused (int_le (pos (suc n)) (pos 0)) refusal rest
      (λ low. absurd (omega (arith, leb-true (suc n) 0 low))) none,
)
positive (negsuc n) refusal rest none = cc

pub extents_positive : (params : List ℤ) (j k : ℕ) (forms : List Affine)
    → bad_dimension j k (values forms params) ≡ None → All (λ form. pos 1 ≤ℤ value_of form params) forms
extents_positive params j k [] none = all_none (IsPositive params)
extents_positive params j k (form ∷ forms) none =
    let both = positive (value_of form params) (Extent j k (value_of form params))
    (bad_dimension j (k + 1) (values forms params)) none in
    All-cons (IsPositive params) form forms both.0 (extents_positive params j (k + 1) forms both.1)

pub arrays_positive : (params : List ℤ) (j : ℕ) (ds : List Declaration) → bad_extent params j ds ≡ None
    → All (λ d. All (λ form. pos 1 ≤ℤ value_of form params) d.extents) ds
arrays_positive params j [] none = all_none (ArePositive params)
arrays_positive params j (d ∷ ds) none =
    let here = none_first (bad_dimension j 1 (values d.extents params)) (bad_extent params (j + 1) ds) none in
    let rest = none_second (bad_dimension j 1 (values d.extents params)) (bad_extent params (j + 1) ds) none in
    All-cons (ArePositive params) d ds (extents_positive params j 1 d.extents here)
    (arrays_positive params (j + 1) ds rest)

pub good_arrays : (params : List ℤ) (ds : List Declaration) (other : Option DataRefusal)
    → or_else (bad_extent params 0 ds) other ≡ None
    → All (λ d. All (λ form. pos 1 ≤ℤ value_of form params) d.extents) ds
good_arrays params ds other none = arrays_positive params 0 ds (none_first (bad_extent params 0 ds) other none)
