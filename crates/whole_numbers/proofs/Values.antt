-- Values of forms: sums, multiples, compositions, complements, one variable more; forms that agree are one.
use Rattle.std.proofs.Common.{◌≡◌, ℕ, zero, suc, ◌+◌, ◌<◌, ℤ, pos, negsuc, neg_ℤ, ◌+ℤ◌, ◌-ℤ◌, ◌*ℤ◌, ◌≤ℤ◌, ◌<ℤ◌, ◌↔◌}
use Rattle.std.proofs.Common.{List, [], ◌∷◌, ◌++◌, length, set, get_or, take, drop, All, ap, ap₂, subst, sym, ◌∙◌, refl}
use Rattle.std.proofs.Common.{arith}
use Rattle.std.proofs.lemmas.Int.{ints}
use Rattle.std.proofs.Math.ListN.{length-set}
use Rattle.std.proofs.lemmas.List.Elements.{All-head, All-tail}
use Rattle.whole_numbers.specs.Lists.{dot, multiples, zeros}
use Rattle.whole_numbers.specs.Affine.{Affine, form_of, value_of, sum_of_forms, multiple_of_form, substituted}
use Rattle.whole_numbers.specs.Affine.{values_of, plus_combination, composed, widened, complement}
use Rattle.whole_numbers.proofs.Ring.{mul_distrib_left, mul_sub_left, mul_sub_right, mul_comm_int, mul_zero_left}
use Rattle.whole_numbers.proofs.Order.{cancel_eq, cancel_le, mul_not_negative}
use Rattle.whole_numbers.proofs.Lists.{list_same}
use Rattle.whole_numbers.proofs.Dot.{dot_comm, dot-sums, dot-multiples, dot-zeros, dot-set, dot-set_left}
use Rattle.whole_numbers.proofs.Dot.{dot-unit, length-multiples, length-sums, length-zeros}

-- the value of a sum of forms is the sum of their values
pub value_of-sum : (f g : Affine) (point : List ℤ)
    → value_of (sum_of_forms f g) point ≡ value_of f point +ℤ value_of g point
value_of-sum f g point = let e = dot-sums f.coefficients g.coefficients point in omega (arith, ints)

-- the value of a multiple of a form is the multiple of its value
pub value_of-multiple : (k : ℤ) (f : Affine) (point : List ℤ)
    → value_of (multiple_of_form k f) point ≡ k *ℤ value_of f point
value_of-multiple k f point =
    let e = dot-multiples k f.coefficients point in
    let s = mul_distrib_left (dot f.coefficients point) f.constant k in
    omega (arith, ints)

-- a point with the entry i replaced by v changes the value by the coefficient times the difference
pub value_of-set : (f : Affine) (point : List ℤ) (i : ℕ) (v : ℤ) → i < length point
    → value_of f (set point i v) ≡ value_of f point +ℤ
    (get_or f.coefficients i (pos 0) *ℤ (v -ℤ get_or point i (pos 0)))
value_of-set f point i v h = let e = dot-set f.coefficients point i v h in omega (arith, ints)

-- replacing a variable by a form gives the value at the point with that entry replaced by the form's value
pub value_of-substituted : (i : ℕ) (f g : Affine) (point : List ℤ)
    → i < length f.coefficients → i < length point
    → value_of (substituted i f g) point ≡ value_of f (set point i (value_of g point))
value_of-substituted i f g point h k =
    let c = get_or f.coefficients i (pos 0) in
    let x = get_or point i (pos 0) in
    let v = value_of g point in
    let kept = form_of (set f.coefficients i (pos 0)) f.constant in
    let sum = value_of-sum kept (multiple_of_form c g) point in
    let product = value_of-multiple c g point in
    let dropped = dot-set_left f.coefficients point i (pos 0) h in
    let moved = value_of-set f point i v k in
    let s = mul_sub_left v x c in
    let t = mul_sub_right (pos 0) c x in
    omega (arith, ints)

-- the value of a form plus a combination
pub value_of-combination : (sum : Affine) (ks : List ℤ) (fs : List Affine) (point : List ℤ)
    → value_of (plus_combination sum ks fs) point ≡ value_of sum point +ℤ dot ks (values_of fs point)
value_of-combination sum [] fs point = omega (arith, ints)
value_of-combination sum (k ∷ ks) [] point = omega (arith, ints)
value_of-combination sum (k ∷ ks) (f ∷ fs) point =
    let more = value_of-combination (sum_of_forms sum (multiple_of_form k f)) ks fs point in
    let s = value_of-sum sum (multiple_of_form k f) point in
    let m = value_of-multiple k f point in
    omega (arith, ints)

-- a composed form has the form's value at the values of the inner forms
pub value_of-composed : (f : Affine) (inner : List Affine) (n : ℕ) (point : List ℤ)
    → value_of (composed f inner n) point ≡ value_of f (values_of inner point)
value_of-composed f inner n point =
    let e = value_of-combination (form_of (zeros n) f.constant) f.coefficients inner point in
    let z = dot-zeros n point in
    omega (arith, ints)

-- a form over one variable more, of which it does not speak: its value, and how many variables it has
dot_widened : (outer : List ℤ) (x : ℤ) (rest cs : List ℤ)
    → dot (take (length outer) cs ++ pos 0 ∷ drop (length outer) cs) (outer ++ x ∷ rest) ≡ dot cs (outer ++ rest)
dot_widened [] x rest cs = let z = mul_zero_left x in omega (arith, ints)
dot_widened (y ∷ outer) x rest [] = let z = mul_zero_left y in omega (arith, ints)
dot_widened (y ∷ outer) x rest (c ∷ cs) = let r = dot_widened outer x rest cs in omega (arith, ints)

pub value_of-widened : (place : ℕ) (f : Affine) (outer : List ℤ) (x : ℤ) (rest : List ℤ) → length outer ≡ place
    → value_of (widened place f) (outer ++ x ∷ rest) ≡ value_of f (outer ++ rest)
value_of-widened place f outer x rest size =
    subst (λ k. value_of (widened k f) (outer ++ x ∷ rest) ≡ value_of f (outer ++ rest)) size
    (let d = dot_widened outer x rest f.coefficients in omega (arith, ints))

pub length-widened : (place : ℕ) (cs : List ℤ) → length (take place cs ++ pos 0 ∷ drop place cs) ≡ length cs + 1
length-widened zero cs = omega arith
length-widened (suc k) [] = refl
length-widened (suc k) (c ∷ cs) = let r = length-widened k cs in omega arith

-- a combination of forms over n variables is one over n variables
pub length-combination : (n : ℕ) (sum : Affine) (ks : List ℤ) (fs : List Affine) → length sum.coefficients ≡ n
    → All (λ f. length f.coefficients ≡ n) fs → length (plus_combination sum ks fs).coefficients ≡ n
length-combination n sum [] fs size all = size
length-combination n sum (k ∷ ks) [] size all = size
length-combination n sum (k ∷ ks) (f ∷ fs) size all =
    let own = All-head (λ g. length g.coefficients ≡ n) f fs all in
    let m = length-multiples k f.coefficients in
    let s = length-sums sum.coefficients (multiples k f.coefficients) (size ∙ sym (m ∙ own)) in
    length-combination n (sum_of_forms sum (multiple_of_form k f)) ks fs (s ∙ size)
    (All-tail (λ g. length g.coefficients ≡ n) f fs all)

-- the complement's value
pub value_of-complement : (f : Affine) (point : List ℤ)
    → value_of (complement f) point ≡ neg_ℤ (value_of f point) -ℤ pos 1
value_of-complement f point =
    let e = dot-multiples (negsuc 0) f.coefficients point in
    let d = dot f.coefficients point in
    let t : negsuc 0 *ℤ d ≡ neg_ℤ d = omega (arith, ints) in
    omega (arith, ints)

-- a positive multiple of a form is 0, and is not negative, where the form is
pub multiple_keeps_signs : (k : ℤ) (f : Affine) (point : List ℤ) → pos 0 <ℤ k
    → ((value_of (multiple_of_form k f) point ≡ pos 0) ↔ (value_of f point ≡ pos 0))
    × ((pos 0 ≤ℤ value_of (multiple_of_form k f) point) ↔ (pos 0 ≤ℤ value_of f point))
multiple_keeps_signs k f point h =
    let v = value_of f point in
    let e = value_of-multiple k f point in
    let c = mul_comm_int k v in
    let z = mul_zero_left k in (
      (
        λ (g : value_of (multiple_of_form k f) point ≡ pos 0). cancel_eq v (pos 0) k h (omega (arith, ints)),
        λ (g : v ≡ pos 0). let p = ap (λ (x : ℤ). k *ℤ x) g in omega (arith, ints),
      ),
      (
        λ (g : pos 0 ≤ℤ value_of (multiple_of_form k f) point). cancel_le (pos 0) v k h (omega (arith, ints)),
        λ (g : pos 0 ≤ℤ v). let p = mul_not_negative k v (omega (arith, ints)) g in omega (arith, ints),
      ),
    )

-- forms over n variables with the same value at each point are the same
pub form_same : (n : ℕ) (f g : Affine) → length f.coefficients ≡ n → length g.coefficients ≡ n
    → ((point : List ℤ) → length point ≡ n → value_of f point ≡ value_of g point) → f ≡ g
form_same n f g hf hg same =
    let origin = same (zeros n) (length-zeros n) in
    let a = dot_comm f.coefficients (zeros n) ∙ dot-zeros n f.coefficients in
    let b = dot_comm g.coefficients (zeros n) ∙ dot-zeros n g.coefficients in
    let constant : f.constant ≡ g.constant = omega (arith, ints) in
    ap₂ (λ (xs : List ℤ) (x : ℤ). form_of xs x)
    (list_same f.coefficients g.coefficients (hf ∙ sym hg) (λ i inside.
    let unit = set (zeros n) i (pos 1) in
    let here = same unit (length-set (zeros n) i (pos 1) ∙ length-zeros n) in
    let c = dot_comm f.coefficients unit ∙ dot-unit n i f.coefficients (omega arith) in
    let d = dot_comm g.coefficients unit ∙ dot-unit n i g.coefficients (omega arith) in
    omega (arith, ints)))
    constant

pub ruleset value_laws =
    (value_of-sum, value_of-multiple, value_of-substituted, value_of-composed, value_of-complement)
