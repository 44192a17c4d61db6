-- The turns of a statement's domain lie within 2^46 over fractions.
use Rattle.scop_syntax.proofs.Common.{◌≡◌, ℕ, ◌+◌, ◌*◌, ◌^◌, ◌≤◌, ℤ, pos, negsuc, List, [], ◌∷◌, ◌++◌, length, map, inl}
use Rattle.scop_syntax.proofs.Common.{inr, ap, subst, sym, ◌∙◌, refl, arith, mul-le-mul, length-append, ◌+ℤ◌, ◌-ℤ◌}
use Rattle.scop_syntax.proofs.Common.{◌*ℤ◌, ◌≤ℤ◌, ◌<ℤ◌, ◌⊎◌, neg_ℤ, unsigned_abs, All, ints, length-map, All-nil}
use Rattle.scop_syntax.proofs.Common.{All-cons, All-head, All-tail, Affine, composed, mul_neg_left, mul_one_left}
use Rattle.scop_syntax.proofs.Common.{mul_le, abs_low, abs_high, abs_at_most, all_back, Program, Head, In, own, IsHead}
use Rattle.scop_syntax.proofs.Common.{IsKernel, AreScopes, Scope, round, under, Placed, loops_in, dot_last, size}
use Rattle.scop_syntax.proofs.Common.{most_parameter}
use Rattle.fractions.specs.Fractions.{value_over, HoldsOver}
use Rattle.fm_projection.specs.Alone.{AreInRangeOver, IsInRangeOver}
use Rattle.scop_syntax.proofs.Kernels.{kernel_placed}
use Rattle.scop_syntax.proofs.Sizes.{grown, size-append, grown_up}
use Rattle.scop_syntax.proofs.Sizes.{five}
use Rattle.iteration_domains.specs.Rows.{variable, composed_test, iterator, within_loop, rows_from, rows_of}
use Rattle.iteration_domains.specs.Rows.{variables_of_statement, parameter_forms}
use Rattle.iteration_domains.specs.Constraints.{rows_in}
use Rattle.iteration_domains.specs.Model.{Modelled, model_of}
use Rattle.iteration_domains.proofs.Points.{rows_in-append}
use Rattle.iteration_domains.proofs.RowLaws.{GoesOn, goes_on, goes_on_last}
use Rattle.iteration_domains.proofs.Instances.{statement_from}
use Rattle.tile_skew.proofs.ComposedValues.{values_over, value_over-composed, value_over-variable, value_over-size}
use Rattle.tile_skew.proofs.ComposedValues.{values_over-variables, values_over-within}

-- an iterator within b, and a turn within twice as much
record AreWithin (b : ℕ) (i x : ℤ) : Type 0 where
  iterator : unsigned_abs i ≤ b
  turn : unsigned_abs x ≤ 2 * b

-- a turn that is not negative, at which the condition holds: its iterator lies between the first one and the bound
turn_within : (b : ℕ) (first other c stride x : ℤ) → unsigned_abs first ≤ b → unsigned_abs other ≤ b → pos 0 ≤ℤ x
    → pos 0 ≤ℤ (other +ℤ (c *ℤ (first +ℤ (stride *ℤ x))))
    → ((c ≡ negsuc 0) × (pos 1 ≤ℤ stride)) ⊎ ((c ≡ pos 1) × (stride ≤ℤ negsuc 0))
    → AreWithin b (first +ℤ (stride *ℤ x)) x
turn_within b first other c stride x begins ends up holds (inl d) =
    let i = first +ℤ (stride *ℤ x) in
    let fl = abs_low first in
    let fh = abs_high first in
    let oh = abs_high other in
    let own_is = ap (λ z. z *ℤ i) d.0 in
    let minus = mul_neg_left (pos 1) i in
    let one = mul_one_left i in
    let m = mul_le (pos 1) stride x d.1 up in
    let o = mul_one_left x in
    record {
      iterator = abs_at_most i b (omega (arith, ints)) (omega (arith, ints));
      turn = abs_at_most x (2 * b) (omega (arith, ints)) (omega (arith, ints));
    }
turn_within b first other c stride x begins ends up holds (inr d) =
    let i = first +ℤ (stride *ℤ x) in
    let fl = abs_low first in
    let fh = abs_high first in
    let ol = abs_low other in
    let oh = abs_high other in
    let own_is = ap (λ z. z *ℤ i) d.0 in
    let one = mul_one_left i in
    let down = d.1 in
    let m = mul_le (pos 1) (neg_ℤ stride) x (omega (arith, ints)) up in
    let o = mul_one_left x in
    let n = mul_neg_left stride x in
    record {
      iterator = abs_at_most i b (omega (arith, ints)) (omega (arith, ints));
      turn = abs_at_most x (2 * b) (omega (arith, ints)) (omega (arith, ints));
    }

-- a loop's iterator and turn over fractions, by the size of the point round it
head_within : (head : Head) (d : ℤ) (point : List ℤ) (x : ℤ) → IsHead (length point) head → pos 0 ≤ℤ x
    → pos 0 ≤ℤ value_over head.condition d (point ++ (value_over head.first d point +ℤ (head.stride *ℤ x)) ∷ [])
    → AreWithin (16 * size point + (2 ^ 20 + 1) * unsigned_abs d)
    (value_over head.first d point +ℤ (head.stride *ℤ x)) x
head_within head d point x is up holds =
    let n = length point in
    let b = 16 * size point + (2 ^ 20 + 1) * unsigned_abs d in
    let first = value_over head.first d point in
    let i = first +ℤ (head.stride *ℤ x) in
    let other = value_over head.condition d (point ++ pos 0 ∷ []) in
    let f = value_over-size n 16 (2 ^ 20) head.first d point is.first in
    let g = value_over-size (n + 1) 16 (2 ^ 20 + 1) head.condition d (point ++ pos 0 ∷ []) is.condition in
    let same = size-append point (pos 0) in
    let l = dot_last head.condition.coefficients point (pos 0) i in
    let back : i -ℤ pos 0 ≡ i = omega (arith, ints) in
    let p = ap (λ z. own n head *ℤ z) back in
    turn_within b first other (own n head) head.stride x (omega arith) (omega arith) up (omega (arith, ints))
    is.direction

-- the size of a point within one loop more
size_more : (t e s i : ℕ) → s ≤ t * e → i ≤ 16 * s + (2 ^ 20 + 1) * e → s + i ≤ (17 * t + 2 ^ 21) * e
size_more t e s i h k = omega arith

-- a turn at a point whose size, with the loop's iterator, is at most 2^40
turn_below : (t e s x : ℕ) → s ≤ t * e → x ≤ 2 * (16 * s + (2 ^ 20 + 1) * e) → 17 * t + 2 ^ 21 ≤ 2 ^ 40
    → x ≤ 2 ^ 46 * e
turn_below t e s x h k small =
    let same : e ≤ e = omega arith in
    let m : (17 * t + 2 ^ 21) * e ≤ 2 ^ 40 * e = mul-le-mul small same in
    omega arith

-- the turns of what stands round a statement, by the size of the point outside
scopes_within : (scopes : List Scope) (n j : ℕ) (forms : List Affine) (d : ℤ) (xs ys : List ℤ) (t : ℕ) → n ≡ length xs
    → GoesOn xs j ys → length ys ≡ loops_in scopes → AreScopes (length forms) scopes
    → All (λ f. pos 0 ≤ℤ value_over f d xs) (rows_in (rows_from n j scopes forms))
    → size (values_over forms d xs) ≤ t * unsigned_abs d → grown (loops_in scopes) t ≤ 2 ^ 40
    → All (λ y. unsigned_abs y ≤ 2 ^ 46 * unsigned_abs d) ys
scopes_within [] n j forms d xs [] t e g l are rows s few = All-nil (λ y. unsigned_abs y ≤ 2 ^ 46 * unsigned_abs d)
scopes_within [] n j forms d xs (y ∷ ys) t e g l are rows s few = absurd (omega arith)
scopes_within (under tests ∷ scopes) n j forms d xs ys t e g l are rows s few =
    let P : Affine → Type 0 = λ f. pos 0 ≤ℤ value_over f d xs in
    let here = map (composed_test n forms) tests in
    let there = rows_from n j scopes forms in
    let parts = subst (All P) (rows_in-append here there) rows in
    scopes_within scopes n j forms d xs ys t e g l are.1 (all_back P (rows_in here) (rows_in there) parts) s few
scopes_within (round head ∷ scopes) n j forms d xs [] t e g l are rows s few = absurd (omega arith)
scopes_within (round head ∷ scopes) n j forms d xs (y ∷ ys) t e g l are rows s few =
    let P : Affine → Type 0 = λ f. pos 0 ≤ℤ value_over f d xs in
    let k = g.0 in
    let inner = within_loop n j head forms in
    let point = values_over forms d xs in
    let i = value_over head.first d point +ℤ (head.stride *ℤ y) in
    let condition = composed head.condition inner n in
    let there = rows_in (rows_from n (j + 1) scopes inner) in
    let behind = All-tail P (variable n j) (condition ∷ there) rows in
    let p = values_over-within n j head forms d xs y (omega arith) g.1 in
    let up = subst (λ z. pos 0 ≤ℤ z) (value_over-variable n j d xs (omega arith) ∙ g.1)
    (All-head P (variable n j) (condition ∷ there) rows) in
    let holds = subst (λ z. pos 0 ≤ℤ z)
    (value_over-composed head.condition inner n d xs ∙ ap (value_over head.condition d) p)
    (All-head P condition there behind) in
    let is = subst (λ m. IsHead m head) (sym (length-map forms (λ form. value_over form d xs))) are.0 in
    let w = head_within head d point y is up holds in
    let a = w.iterator in
    let b = w.turn in
    let long = length-append forms (iterator n j head forms ∷ []) in
    let sized : size (values_over inner d xs) ≤ (17 * t + 2 ^ 21) * unsigned_abs d =
    subst (λ q. size q ≤ (17 * t + 2 ^ 21) * unsigned_abs d) (sym p)
    (let m = size-append point i in
    let r = size_more t (unsigned_abs d) (size point) (unsigned_abs i) s a in omega arith) in
    let u = grown_up (loops_in scopes) (17 * t + 2 ^ 21) in
    All-cons (λ z. unsigned_abs z ≤ 2 ^ 46 * unsigned_abs d) y ys
    (turn_below t (unsigned_abs d) (size point) (unsigned_abs y) s b (omega arith))
    (scopes_within scopes n (j + 1) inner d xs ys (17 * t + 2 ^ 21) e g.2 (omega arith)
    (subst (λ m. AreScopes m scopes) (sym long) are.1) (All-tail P condition there behind) sized few)

-- the size of parameters in range
params_size : (d : ℤ) (params : List ℤ) → AreInRangeOver d params
    → size params ≤ most_parameter * unsigned_abs d * length params
params_size d [] range = omega arith
params_size d (p ∷ ps) range =
    let one = All-head (IsInRangeOver d) p ps range in
    let low = one.0 in
    let high = one.1 in
    let top = abs_high d in
    let a = abs_at_most p (most_parameter * unsigned_abs d) (omega (arith, ints)) (omega (arith, ints)) in
    let r = params_size d ps (All-tail (IsInRangeOver d) p ps range) in
    omega arith

-- the turns of a statement, with at most four parameters
placed_within : (p : Placed) (d : ℤ) (turns params : List ℤ) → AreScopes (length params) p.scopes
    → loops_in p.scopes ≤ 5 → length params ≤ 4 → length turns ≡ loops_in p.scopes → AreInRangeOver d params
    → All (λ f. pos 0 ≤ℤ value_over f d (turns ++ params)) (rows_in (rows_of (length params) p))
    → All (λ x. unsigned_abs x ≤ 2 ^ 46 * unsigned_abs d) turns
placed_within p d turns params are loops few l range rows =
    let m = length params in
    let n = variables_of_statement m p in
    let xs = turns ++ params in
    let forms = parameter_forms m p in
    let size_is : n ≡ length xs = let a = length-append turns params in omega arith in
    let params_are : values_over forms d xs ≡ params =
    values_over-variables n (loops_in p.scopes) m d xs params size_is refl
    (subst (λ i. GoesOn xs i params) l (goes_on_last turns params)) in
    let count : length params ≡ length forms =
    ap length (sym params_are) ∙ length-map forms (λ form. value_over form d xs) in
    let small : size params ≤ 2 ^ 18 * unsigned_abs d =
    let a = params_size d params range in
    let same : most_parameter * unsigned_abs d ≤ most_parameter * unsigned_abs d = omega arith in
    let b : most_parameter * unsigned_abs d * length params ≤ most_parameter * unsigned_abs d * 4 =
    mul-le-mul same few in
    omega arith in
    scopes_within p.scopes n 0 forms d xs turns (2 ^ 18) size_is (goes_on [] turns params) l
    (subst (λ k. AreScopes k p.scopes) count are) rows
    (subst (λ q. size q ≤ 2 ^ 18 * unsigned_abs d) (sym params_are) small) (five (loops_in p.scopes) loops)

-- each turn of a statement's domain lies within 2^46, over fractions too
pub turns_bounded : (program : Program) (s : Modelled) (d : ℤ) (turns params : List ℤ) → IsKernel program
    → In s (model_of program).statements → pos 0 <ℤ d → length turns ≡ s.domain.dimensions
    → length params ≡ s.domain.parameters → AreInRangeOver d params
    → HoldsOver s.domain.equalities s.domain.rows d (turns ++ params)
    → All (λ x. unsigned_abs x ≤ 2 ^ 46 * unsigned_abs d) turns
turns_bounded program s d turns params is among up l count range holds =
    let from = statement_from program s among in
    let p = from.0 in
    let same = from.2 in
    let placed = kernel_placed program p is from.1 in
    let m : length params ≡ length program.parameters = count ∙ ap (λ (z : Modelled). z.domain.parameters) same in
    let few = is.few_parameters in
    placed_within p d turns params (subst (λ k. AreScopes k p.scopes) (sym m) placed.scopes) placed.few_loops
    (omega arith) (l ∙ ap (λ (z : Modelled). z.domain.dimensions) same) range
    (subst (λ k. All (λ f. pos 0 ≤ℤ value_over f d (turns ++ params)) (rows_in (rows_of k p))) (sym m)
    (subst (λ (z : Modelled). All (λ f. pos 0 ≤ℤ value_over f d (turns ++ params)) z.domain.rows) same holds.1))
