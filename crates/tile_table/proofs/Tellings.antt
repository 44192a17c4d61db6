-- A form that was made of the numbers at no turns and at one turn of each loop tells the number at all turns; in a
-- single row it tells the value of another form.
use Rattle.scop_syntax.proofs.Common.{◌≡◌, ◌∙◌, ap, subst, sym, ℕ, zero, suc, ◌+◌, ◌<◌, ◌≤◌, ◌^◌, List, [], ◌∷◌, ◌++◌}
use Rattle.scop_syntax.proofs.Common.{length, get_or, set, take, arith, ℤ, pos, neg_ℤ, ◌+ℤ◌, ◌-ℤ◌, ◌*ℤ◌, w64}
use Rattle.scop_syntax.proofs.Common.{ints, get_or_append_left, Affine, value_of, zeros, Access, Head, wrapped}
use Rattle.scop_syntax.proofs.Common.{int_wrap-add_left, nat_cases, total_cells, IfOk, IfOk-weaker, Result}
use Rattle.std.specs.Int.{int_wrap}
use Rattle.std.proofs.lemmas.Int.{int_wrap-sub_right}
use Rattle.std.proofs.lemmas.List.{get_or_push}
use Rattle.tile_table.specs.Numbers.{number_behind}
use Rattle.tile_table.specs.Points.{point_in}
use Rattle.tile_table.specs.Tables.{Tells}
use Rattle.tile_table.specs.steps.Forms.{IsFormOver, TellsNumber, number_form}
use Rattle.tile_table.specs.steps.Same.{IsSame}
use Rattle.tile_table.proofs.Linear.{coefficient_told, constant_told, number_told}
use Rattle.tile_table.proofs.Congruences.{forms_same, same_wrapped, wrapped_same}

-- a difference of wrapped numbers, wrapped
difference_wrapped : (x y : ℤ) → int_wrap w64 (int_wrap w64 x -ℤ int_wrap w64 y) ≡ int_wrap w64 (x -ℤ y)
difference_wrapped x y =
    let turned : int_wrap w64 x -ℤ y ≡ int_wrap w64 x +ℤ neg_ℤ y = omega (arith, ints) in
    let back : x +ℤ neg_ℤ y ≡ x -ℤ y = omega (arith, ints) in
    int_wrap-sub_right w64 (int_wrap w64 x) y
    ∙ (ap (int_wrap w64) turned ∙ (int_wrap-add_left w64 x (neg_ℤ y) ∙ ap (int_wrap w64) back))

-- what a turn of loop k adds
pub stride_is : (n before : ℕ) (extents : List ℕ) (subscripts : List Affine) (heads : List Head) (params : List ℤ)
    (k : ℕ) (result next base : ℤ) → length heads ≤ n → k < n
    → next ≡ int_wrap w64 (number_behind before extents subscripts (point_in heads params (set (zeros n) k (pos 1))))
    → base ≡ int_wrap w64 (number_behind before extents subscripts (point_in heads params (zeros n)))
    → result ≡ int_wrap w64 (next -ℤ base)
    → result ≡ int_wrap w64 (get_or (number_form n before extents subscripts heads params).coefficients k (pos 0))
stride_is n before extents subscripts heads params k result next base few less is_next is_base is =
    let form = number_form n before extents subscripts heads params in
    let one = number_behind before extents subscripts (point_in heads params (set (zeros n) k (pos 1))) in
    let none = number_behind before extents subscripts (point_in heads params (zeros n)) in
    let with_one = coefficient_told n before extents subscripts heads params k few less in
    let with_none = constant_told n before extents subscripts heads params few in
    let added : one -ℤ none ≡ get_or form.coefficients k (pos 0) = omega (arith, ints) in
    is ∙ (ap (λ (z : ℤ). int_wrap w64 (z -ℤ base)) is_next
    ∙ (ap (λ (z : ℤ). int_wrap w64 (int_wrap w64 one -ℤ z)) is_base
    ∙ (difference_wrapped one none ∙ ap (int_wrap w64) added)))

pub form_tells : (n before : ℕ) (extents : List ℕ) (subscripts : List Affine) (heads : List Head) (params : List ℤ)
    (form : Affine) → length heads ≤ n
    → IsSame form.constant (number_behind before extents subscripts (point_in heads params (zeros n)))
    → ((i : ℕ) → i < n → IsSame (get_or form.coefficients i (pos 0))
    (get_or (number_form n before extents subscripts heads params).coefficients i (pos 0)))
    → TellsNumber before extents subscripts heads params form
form_tells n before extents subscripts heads params form few constant each = λ turns long.
    let told = number_form n before extents subscripts heads params in
    wrapped_same _ _ (forms_same n form told turns (omega (arith, few, long))
    (constant ∙ ap (int_wrap w64) (constant_told n before extents subscripts heads params few)) each
    ∙ ap (int_wrap w64) (number_told n before extents subscripts heads params turns long few))

-- a coefficient more
pub coefficients_more : (form : Affine) (ks new : List ℤ) (k : ℕ) (stride : ℤ) → length ks ≡ k
    → ((i : ℕ) → i < k → IsSame (get_or ks i (pos 0)) (get_or form.coefficients i (pos 0)))
    → stride ≡ int_wrap w64 (get_or form.coefficients k (pos 0)) → new ≡ ks ++ stride ∷ []
    → (i : ℕ) → i < k + 1 → IsSame (get_or new i (pos 0)) (get_or form.coefficients i (pos 0))
coefficients_more form ks new k stride long each is pushed i less =
    nat_cases i k
    (λ l. ap (λ (ys : List ℤ). int_wrap w64 (get_or ys i (pos 0))) pushed
    ∙ (ap (int_wrap w64) (get_or_append_left ks (stride ∷ []) (pos 0) i (omega (arith, l, long))) ∙ each i l))
    (λ e. ap (λ (ys : List ℤ). int_wrap w64 (get_or ys i (pos 0))) pushed
    ∙ (ap (int_wrap w64) (get_or_push ks stride (pos 0) i (long ∙ sym e) ∙ is)
    ∙ (same_wrapped (get_or form.coefficients k (pos 0))
    ∙ ap (λ (j : ℕ). int_wrap w64 (get_or form.coefficients j (pos 0))) (sym e))))
    (λ l. absurd (omega (arith, l, less)))

-- what tells the number in the row of an array tells that of an access's cell
pub cell_told : {E : Type 0} (extents : List (List ℕ)) (access : Access) (heads : List Head) (params : List ℤ)
    (before : ℕ) (own : List ℕ) (subscripts : List Affine) (result : Result Affine E)
    → before ≡ total_cells (take access.array extents) → own ≡ get_or extents access.array []
    → subscripts ≡ access.subscripts → IfOk result (TellsNumber before own subscripts heads params)
    → IfOk result (Tells extents params heads access)
cell_told extents access heads params before own subscripts result total sizes spoken =
    let all = total_cells (take access.array extents) in
    let row = get_or extents access.array [] in
    IfOk-weaker result (TellsNumber before own subscripts heads params) (Tells extents params heads access)
    (λ form tells.
    subst (λ (fs : List Affine). TellsNumber all row fs heads params form) spoken
    (subst (λ (ns : List ℕ). TellsNumber all ns subscripts heads params form) sizes
    (subst (λ (n : ℕ). TellsNumber n own subscripts heads params form) total tells)))

-- a row of one cell
pub one_size : (i d : ℕ) → i < 1 → (1 ≤ get_or (1 ∷ []) i d) × (get_or (1 ∷ []) i d ≤ 2 ^ 22)
one_size zero d less = (omega arith, omega arith)
one_size (suc i) d less = absurd (omega (arith, less))

-- there a form that tells the number of a cell has the value of the cell's subscript
pub form_in_row : (params : List ℤ) (heads : List Head) (form over : Affine)
    → TellsNumber 0 (1 ∷ []) (form ∷ []) heads params over → IsFormOver params heads form over
form_in_row params heads form over tells = λ turns long.
    tells turns long ∙ ap wrapped (subscript (value_of form (point_in heads params turns)))
  where
    subscript : (x : ℤ) → pos 0 +ℤ (x +ℤ (pos 1 *ℤ pos 0)) ≡ x
    subscript x = omega (arith, ints)
