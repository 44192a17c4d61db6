-- A point within loops, and the number of a cell there, as forms of the turns.
use Rattle.scop_syntax.proofs.Common.{◌≡◌, ◌∙◌, ap, ap₂, sym, refl, ℕ, suc, ◌+◌, ◌-◌, ◌<◌, ◌≤◌, List, [], ◌∷◌, ◌++◌}
use Rattle.scop_syntax.proofs.Common.{length, map, drop, get_or, set, arith, drop-cons, length-append, ℤ, pos, ◌+ℤ◌}
use Rattle.scop_syntax.proofs.Common.{◌*ℤ◌, ints, map-append, length-set, Affine, composed}
use Rattle.scop_syntax.proofs.Common.{form_of, multiple_of_form, sum_of_forms, value_of, values_of, dot, zeros}
use Rattle.scop_syntax.proofs.Common.{dot_comm, dot-padded, dot-unit, dot-zeros, length-zeros, value_of-composed}
use Rattle.scop_syntax.proofs.Common.{value_of-multiple, value_of-sum, values, Head, turn_point}
use Rattle.tile_table.specs.Numbers.{number_behind, row_major}
use Rattle.tile_table.specs.Points.{point_in}
use Rattle.tile_table.specs.steps.Forms.{constants, number_form, offset_form, point_forms, turn_form}
use Rattle.tile_table.proofs.LoopPoints.{point_by_front}

turn_value : (n k : ℕ) (turns : List ℤ) → k < n → value_of (turn_form n k) turns ≡ get_or turns k (pos 0)
turn_value n k turns less = let unit = dot-unit n k turns less in omega (arith, ints)

constants_value : (params turns : List ℤ) → values_of (constants params) turns ≡ params
constants_value [] turns = refl
constants_value (p ∷ params) turns =
    let own : pos 0 +ℤ p ≡ p = omega (arith, ints) in
    ap₂ (λ (x : ℤ) (xs : List ℤ). x ∷ xs) own (constants_value params turns)

-- the next iterator as a form
iterator_value : (n : ℕ) (head : Head) (forms : List Affine) (k : ℕ) (turns : List ℤ) → k < n
    → value_of (sum_of_forms (composed head.first forms n) (multiple_of_form head.stride (turn_form n k))) turns
    ≡ value_of head.first (values_of forms turns) +ℤ (head.stride *ℤ get_or turns k (pos 0))
iterator_value n head forms k turns less =
    value_of-sum (composed head.first forms n) (multiple_of_form head.stride (turn_form n k)) turns
    ∙ ap₂ (λ (x y : ℤ). x +ℤ y) (value_of-composed head.first forms n turns)
    (value_of-multiple head.stride (turn_form n k) turns
    ∙ ap (λ (z : ℤ). head.stride *ℤ z) (turn_value n k turns less))

-- the point behind the turns up to k
point_value : (n : ℕ) (heads : List Head) (forms : List Affine) (k : ℕ) (turns : List ℤ) → k + length heads ≤ n
    → length turns ≡ n
    → values_of (point_forms n heads forms k) turns ≡ point_in heads (values_of forms turns) (drop k turns)
point_value n [] forms k turns few long = refl
point_value n (head ∷ heads) forms k turns few long =
    let next = sum_of_forms (composed head.first forms n) (multiple_of_form head.stride (turn_form n k)) in
    let less : k < n = omega (arith, few) in
    let turn = get_or turns k (pos 0) in
    let entered : values_of (forms ++ next ∷ []) turns ≡ turn_point head (values_of forms turns) turn =
    map-append (λ (f : Affine). value_of f turns) forms (next ∷ [])
    ∙ ap (λ (z : ℤ). values_of forms turns ++ z ∷ []) (iterator_value n head forms k turns less) in
    point_value n heads (forms ++ next ∷ []) (suc k) turns (omega (arith, few)) long
    ∙ (ap (λ (p : List ℤ). point_in heads p (drop (suc k) turns)) entered
    ∙ sym (ap (point_in (head ∷ heads) (values_of forms turns))
    (drop-cons turns k (pos 0) (omega (arith, less, long)))))

offset_value : (offset : Affine) (extents : List ℕ) (forms : List Affine) (turns : List ℤ)
    → value_of (offset_form offset extents forms) turns
    ≡ row_major (value_of offset turns) extents (values_of forms turns)
offset_value offset [] forms turns = refl
offset_value offset (extent ∷ extents) [] turns = refl
offset_value offset (extent ∷ extents) (form ∷ forms) turns =
    offset_value (sum_of_forms form (multiple_of_form (pos extent) offset)) extents forms turns
    ∙ ap (λ (z : ℤ). row_major z extents (values_of forms turns))
    (value_of-sum form (multiple_of_form (pos extent) offset) turns
    ∙ ap (λ (z : ℤ). value_of form turns +ℤ z) (value_of-multiple (pos extent) offset turns))

composed_values : (forms inner : List Affine) (n : ℕ) (turns : List ℤ)
    → values_of (map (λ form. composed form inner n) forms) turns ≡ values forms (values_of inner turns)
composed_values [] inner n turns = refl
composed_values (form ∷ forms) inner n turns =
    ap₂ (λ (x : ℤ) (xs : List ℤ). x ∷ xs) (value_of-composed form inner n turns) (composed_values forms inner n turns)

-- the form's value at n turns is the number
number_value : (n before : ℕ) (extents : List ℕ) (subscripts : List Affine) (heads : List Head) (params : List ℤ)
    (turns : List ℤ) → length heads ≤ n → length turns ≡ n
    → value_of (number_form n before extents subscripts heads params) turns
    ≡ number_behind before extents subscripts (point_in heads params turns)
unfolding number_form
number_value n before extents subscripts heads params turns few long =
    let first = form_of [] (pos before) in
    let inner = point_forms n heads (constants params) 0 in
    let told = map (λ form. composed form inner n) subscripts in
    let none : value_of (form_of [] (pos 0)) turns ≡ pos 0 = omega (arith, ints) in
    let front : value_of first turns ≡ pos before = omega (arith, ints) in
    let point : values_of inner turns ≡ point_in heads params turns =
    point_value n heads (constants params) 0 turns (omega (arith, few)) long
    ∙ ap (λ (p : List ℤ). point_in heads p turns) (constants_value params turns) in
    value_of-sum first (offset_form (form_of [] (pos 0)) extents told) turns
    ∙ ap₂ (λ (x y : ℤ). x +ℤ y) front
    (offset_value (form_of [] (pos 0)) extents told turns
    ∙ ap₂ (λ (z : ℤ) (ss : List ℤ). row_major z extents ss) none
    (composed_values subscripts inner n turns ∙ ap (values subscripts) point))

-- at the turns of the loops alone, too
pub number_told : (n before : ℕ) (extents : List ℕ) (subscripts : List Affine) (heads : List Head) (params : List ℤ)
    (turns : List ℤ) → length turns ≡ length heads → length heads ≤ n
    → value_of (number_form n before extents subscripts heads params) turns
    ≡ number_behind before extents subscripts (point_in heads params turns)
number_told n before extents subscripts heads params turns long few =
    let form = number_form n before extents subscripts heads params in
    let all = turns ++ zeros (n - length turns) in
    let more = length-append turns (zeros (n - length turns)) in
    let count = length-zeros (n - length turns) in
    let padded : dot form.coefficients turns ≡ dot form.coefficients all =
    dot_comm form.coefficients turns
    ∙ (sym (dot-padded turns (n - length turns) form.coefficients) ∙ dot_comm all form.coefficients) in
    ap (λ (z : ℤ). z +ℤ form.constant) padded
    ∙ (number_value n before extents subscripts heads params all few (omega (arith, long, few, more, count))
    ∙ ap (number_behind before extents subscripts)
    (point_by_front heads params turns (zeros (n - length turns)) (omega (arith, long))))

-- its constant is the number at no turns, a coefficient what one turn adds
pub constant_told : (n before : ℕ) (extents : List ℕ) (subscripts : List Affine) (heads : List Head)
    (params : List ℤ) → length heads ≤ n
    → number_behind before extents subscripts (point_in heads params (zeros n))
    ≡ (number_form n before extents subscripts heads params).constant
constant_told n before extents subscripts heads params few =
    let form = number_form n before extents subscripts heads params in
    let none = dot_comm form.coefficients (zeros n) ∙ dot-zeros n form.coefficients in
    sym (number_value n before extents subscripts heads params (zeros n) few (length-zeros n)) ∙ (omega (arith, ints))

pub coefficient_told : (n before : ℕ) (extents : List ℕ) (subscripts : List Affine) (heads : List Head)
    (params : List ℤ) (k : ℕ) → length heads ≤ n → k < n
    → number_behind before extents subscripts (point_in heads params (set (zeros n) k (pos 1)))
    ≡ get_or (number_form n before extents subscripts heads params).coefficients k (pos 0)
    +ℤ (number_form n before extents subscripts heads params).constant
coefficient_told n before extents subscripts heads params k few less =
    let form = number_form n before extents subscripts heads params in
    let turns = set (zeros n) k (pos 1) in
    let unit = dot_comm form.coefficients turns ∙ dot-unit n k form.coefficients less in
    let long : length turns ≡ n = omega (arith, length-set (zeros n) k (pos 1), length-zeros n) in
    sym (number_value n before extents subscripts heads params turns few long)
    ∙ ap (λ (z : ℤ). z +ℤ form.constant) unit
