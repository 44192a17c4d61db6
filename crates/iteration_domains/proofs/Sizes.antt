-- The numbers of forms: sums, multiples and compositions.
use Rattle.scop_syntax.proofs.Common.{◌≡◌, ℕ, zero, suc, ◌+◌, ◌*◌, ◌^◌, ◌≤◌, ℤ, pos, List, [], ◌∷◌, ◌++◌, set, refl}
use Rattle.scop_syntax.proofs.Common.{arith, mul-le-mul, mul-add, unsigned_abs, unsigned_abs-mul, sums, multiples}
use Rattle.scop_syntax.proofs.Common.{zeros, Affine, form_of, sum_of_forms, multiple_of_form, plus_combination}
use Rattle.scop_syntax.proofs.Common.{composed, abs_sum, Head, AreAtMost, IsForm, IsAffine}
use Rattle.iteration_domains.specs.Rows.{variable, variables, iterator, within_loop}
use Rattle.iteration_domains.specs.Sizes.{size, form_size, forms_size}

size-sums : (xs ys : List ℤ) → size (sums xs ys) ≤ size xs + size ys
size-sums [] ys = omega arith
size-sums (x ∷ xs) [] = omega arith
size-sums (x ∷ xs) (y ∷ ys) = let a = abs_sum x y in let r = size-sums xs ys in omega arith

size-multiples : (k : ℤ) (xs : List ℤ) → size (multiples k xs) ≡ unsigned_abs k * size xs
size-multiples k [] = omega arith
size-multiples k (x ∷ xs) =
    let m = unsigned_abs-mul k x in
    let r = size-multiples k xs in
    let d = mul-add (unsigned_abs k) (unsigned_abs x) (size xs) in
    omega arith

pub size-zeros : (n : ℕ) → size (zeros n) ≡ 0
size-zeros zero = refl
size-zeros (suc n) = let r = size-zeros n in omega arith

size-unit : (n j : ℕ) → size (set (zeros n) j (pos 1)) ≤ 1
size-unit zero j = omega arith
size-unit (suc n) zero = let z = size-zeros n in omega arith
size-unit (suc n) (suc j) = let r = size-unit n j in omega arith

pub size-sum : (f g : Affine) → form_size (sum_of_forms f g) ≤ form_size f + form_size g
size-sum f g =
    let a = size-sums f.coefficients g.coefficients in
    let b = abs_sum f.constant g.constant in
    omega arith

pub size-multiple : (k : ℤ) (f : Affine) → form_size (multiple_of_form k f) ≡ unsigned_abs k * form_size f
size-multiple k f =
    let a = size-multiples k f.coefficients in
    let b = unsigned_abs-mul k f.constant in
    let d = mul-add (unsigned_abs k) (size f.coefficients) (unsigned_abs f.constant) in
    omega arith

pub size-variable : (n j : ℕ) → form_size (variable n j) ≤ 1
size-variable n j = let u = size-unit n j in omega arith

pub size-variables : (n j m : ℕ) → forms_size (variables n j m) ≤ m
size-variables n j zero = omega arith
size-variables n j (suc m) = let v = size-variable n j in let r = size-variables n (j + 1) m in omega arith

-- what stands so far while a form is composed is never larger than the whole bound
size-combination : (k : ℕ) (sum : Affine) (cs : List ℤ) (forms : List Affine) → AreAtMost k cs
    → form_size (plus_combination sum cs forms) ≤ form_size sum + k * forms_size forms
size-combination k sum [] forms h = omega arith
size-combination k sum (c ∷ cs) [] h = omega arith
size-combination k sum (c ∷ cs) (f ∷ fs) h =
    let next = sum_of_forms sum (multiple_of_form c f) in
    let s = size-sum sum (multiple_of_form c f) in
    let m = size-multiple c f in
    let same : form_size f ≤ form_size f = omega arith in
    let l : unsigned_abs c * form_size f ≤ k * form_size f = mul-le-mul h.0 same in
    let r = size-combination k next cs fs h.1 in
    let d = mul-add k (form_size f) (forms_size fs) in
    omega arith

pub size-composed : (j k m n : ℕ) (forms : List Affine) (f : Affine) → IsForm j k m f
    → form_size (composed f forms n) ≤ k * forms_size forms + m
size-composed j k m n forms f small =
    let z = size-zeros n in
    let c = size-combination k (form_of (zeros n) f.constant) f.coefficients forms small.coefficients in
    let l = small.constant in
    omega arith

pub sizes-append : (fs : List Affine) (g : Affine) → forms_size (fs ++ g ∷ []) ≡ forms_size fs + form_size g
sizes-append [] g = omega arith
sizes-append (f ∷ fs) g = let r = sizes-append fs g in omega arith

pub size-iterator : (i n j : ℕ) (head : Head) (forms : List Affine) → IsAffine i head.first
    → unsigned_abs head.stride ≤ 16 → form_size (iterator n j head forms) ≤ 16 * forms_size forms + (2 ^ 20 + 16)
size-iterator i n j head forms first stride =
    let s = size-sum (composed head.first forms n) (multiple_of_form head.stride (variable n j)) in
    let c = size-composed i 16 (2 ^ 20) n forms head.first first in
    let m = size-multiple head.stride (variable n j) in
    let l : unsigned_abs head.stride * form_size (variable n j) ≤ 16 * 1 = mul-le-mul stride (size-variable n j) in
    omega arith

pub sizes-within : (i n j : ℕ) (head : Head) (forms : List Affine) → IsAffine i head.first
    → unsigned_abs head.stride ≤ 16 → forms_size (within_loop n j head forms) ≤ 17 * forms_size forms + 2 ^ 21
sizes-within i n j head forms first stride =
    let a = sizes-append forms (iterator n j head forms) in
    let s = size-iterator i n j head forms first stride in
    omega arith
