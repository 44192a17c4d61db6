-- Values of rows of a context: with one loop more, with a sign, less a divisor times the loop's value.
use Rattle.scop_syntax.proofs.Common.{◌≡◌, ℕ, ◌+◌, ℤ, pos, negsuc, List, [], ◌∷◌, ◌++◌, length, ap, ◌∙◌, refl, arith}
use Rattle.scop_syntax.proofs.Common.{Bool, true, false, not, insert, neg_ℤ, ◌+ℤ◌, ◌-ℤ◌, ◌*ℤ◌, ◌≤ℤ◌, ◌<ℤ◌, ints, Affine}
use Rattle.scop_syntax.proofs.Common.{value_of, widened, dot, multiples, dot-multiples, length-multiples, mul_comm_int}
use Rattle.scop_syntax.proofs.Common.{mul_distrib_left, mul_neg_left, mul_one_left, mul_sub_left}
use Rattle.std.proofs.lemmas.List.{append_assoc}
use Rattle.whole_numbers.proofs.Values.{value_of-widened}
use Rattle.affine_forms.specs.Parts.{variables_of}
use Rattle.loop_tree.specs.Tree.{Bound}
use Rattle.tree_simplification.specs.steps.Context.{sign_of, less_of, form_row, part_row}

-- a number more in a list, and a loop's value more in a point
pub dot_insert : (cs outer : List ℤ) (k x : ℤ) (params : List ℤ) → length cs ≡ length outer + length params
    → dot (insert cs (length outer) k) ((outer ++ x ∷ []) ++ params) ≡ (k *ℤ x) +ℤ dot cs (outer ++ params)
dot_insert cs [] k x params h = refl
dot_insert [] (y ∷ outer) k x params h = absurd (omega (arith, h))
dot_insert (c ∷ cs) (y ∷ outer) k x params h =
    let r = dot_insert cs outer k x params (omega (arith, h)) in omega (arith, ints, r)

-- a number with its sign turned
pub turned_is : (z : ℤ) → negsuc 0 *ℤ z ≡ neg_ℤ z
turned_is z = let a = mul_neg_left (pos 1) z in let b = mul_one_left z in omega (arith, ints, a, b)

-- rows at a loop's value
pub value_widened : (k : ℕ) (f : Affine) (outer params : List ℤ) (x : ℤ) → length outer ≡ k
    → value_of (widened k f) ((outer ++ x ∷ []) ++ params) ≡ value_of f (outer ++ params)
value_widened k f outer params x size =
    ap (value_of (widened k f)) (append_assoc outer (x ∷ []) params) ∙ value_of-widened k f outer x params size

pub value_form_row : (f : Affine) (turned less : Bool) (point : List ℤ)
    → value_of (form_row turned less f) point ≡ (sign_of turned *ℤ value_of f point) +ℤ less_of less
value_form_row f turned less point =
    let s = sign_of turned in
    let d = dot-multiples s f.coefficients point in
    let e = mul_distrib_left (dot f.coefficients point) f.constant s in
    omega (arith, ints, d, e)

-- the opposite sign's product with a divisor and the loop's value
pub other_sign : (turned : Bool) (d x : ℤ) → (sign_of (not turned) *ℤ d) *ℤ x ≡ neg_ℤ (sign_of turned *ℤ (x *ℤ d))
other_sign true d x =
    let a = mul_one_left d in
    let b = ap (λ (z : ℤ). z *ℤ x) a in
    let c = turned_is (x *ℤ d) in
    let e = mul_comm_int d x in
    omega (arith, ints, b, c, e)
other_sign false d x =
    let a = turned_is d in
    let b = ap (λ (z : ℤ). z *ℤ x) a in
    let f = mul_neg_left d x in
    let c = mul_one_left (x *ℤ d) in
    let e = mul_comm_int d x in
    omega (arith, ints, b, c, e, f)

pub value_part_row : (b : Bound) (turned less : Bool) (outer params : List ℤ) (x : ℤ)
    → variables_of b.form ≡ length outer + length params
    → value_of (part_row (length outer) turned less b) ((outer ++ x ∷ []) ++ params)
    ≡ (sign_of turned *ℤ (value_of b.form (outer ++ params) -ℤ (x *ℤ b.divisor))) +ℤ less_of less
value_part_row b turned less outer params x h =
    let s = sign_of turned in
    let cs = b.form.coefficients in
    let point = outer ++ params in
    let k = sign_of (not turned) *ℤ b.divisor in
    let i = dot_insert (multiples s cs) outer k x params (length-multiples s cs ∙ h) in
    let d = dot-multiples s cs point in
    let o = other_sign turned b.divisor x in
    let e = mul_distrib_left (dot cs point) b.form.constant s in
    let m = mul_sub_left (value_of b.form point) (x *ℤ b.divisor) s in
    omega (arith, ints, i, d, o, e, m)

-- 1 less than the opposite is below 0
pub opposite_side : (turned : Bool) (z : ℤ) → ((sign_of (not turned) *ℤ z) +ℤ less_of true) <ℤ pos 0
    → pos 0 ≤ℤ (sign_of turned *ℤ z)
opposite_side true z h =
    let a = turned_is z in let b = mul_one_left z in omega (arith, ints, a, b, h)
opposite_side false z h =
    let a = turned_is z in let b = mul_one_left z in omega (arith, ints, a, b, h)
