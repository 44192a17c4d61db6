-- What numbers that are the same modulo 2^64 have in common.
use Rattle.scop_syntax.proofs.Common.{◌≡◌, ◌∙◌, ap, sym, refl, ℕ, suc, ◌<◌, ◌≤◌, List, [], ◌∷◌, ◌++◌, length, drop}
use Rattle.scop_syntax.proofs.Common.{get_or, arith, ℤ, pos, ◌+ℤ◌, ◌*ℤ◌, cast_unsigned, w64, int_wrap-add_right}
use Rattle.scop_syntax.proofs.Common.{int_wrap_fits, ints, Affine, value_of, dot, dot-nil, dot_comm, mul_zero_right}
use Rattle.scop_syntax.proofs.Common.{values, wrapped, wrapped_is}
use Rattle.std.specs.Int.{int_wrap}
use Rattle.std.proofs.lemmas.Int.{int_wrap-add_same, int_wrap-mul_right}
use Rattle.std.proofs.lemmas.Int.{SFits-int_wrap}
use Rattle.tile_table.specs.Numbers.{row_major}
use Rattle.tile_table.specs.steps.Same.{AreSame, IsSame}

-- so are they as numbers below 2^64
pub wrapped_same : (x y : ℤ) → IsSame x y → wrapped x ≡ wrapped y
wrapped_same x y e = sym (wrapped_is x) ∙ (ap (cast_unsigned w64) e ∙ wrapped_is y)

-- a number is the same as its wrapped one
pub same_wrapped : (x : ℤ) → IsSame (int_wrap w64 x) x
same_wrapped x = int_wrap_fits w64 (int_wrap w64 x) (SFits-int_wrap w64 x)

pub sum_same : (a b c d : ℤ) → IsSame a b → IsSame c d → IsSame (a +ℤ c) (b +ℤ d)
sum_same a b c d e f =
    int_wrap-add_same w64 a b c e
    ∙ (sym (int_wrap-add_right w64 b c) ∙ (ap (λ (z : ℤ). int_wrap w64 (b +ℤ z)) f ∙ int_wrap-add_right w64 b d))

pub product_same : (k a b : ℤ) → IsSame a b → IsSame (k *ℤ a) (k *ℤ b)
product_same k a b e =
    sym (int_wrap-mul_right w64 k a) ∙ (ap (λ (z : ℤ). int_wrap w64 (k *ℤ z)) e ∙ int_wrap-mul_right w64 k b)

pub lists_same : (xs : List ℤ) → AreSame xs xs
lists_same [] = tt
lists_same (x ∷ xs) = (refl, lists_same xs)

pub pushed_same : (xs ys : List ℤ) (x y : ℤ) → AreSame xs ys → IsSame x y → AreSame (xs ++ x ∷ []) (ys ++ y ∷ [])
pushed_same [] [] x y all e = (e, tt)
pushed_same [] (b ∷ ys) x y all e = absurd all
pushed_same (a ∷ xs) [] x y all e = absurd all
pushed_same (a ∷ xs) (b ∷ ys) x y all e = (all.0, pushed_same xs ys x y all.1 e)

pub same_chain : (xs ys zs : List ℤ) → AreSame xs ys → AreSame ys zs → AreSame xs zs
same_chain [] [] [] f g = tt
same_chain [] [] (z ∷ zs) f g = absurd g
same_chain [] (y ∷ ys) zs f g = absurd f
same_chain (x ∷ xs) [] zs f g = absurd f
same_chain (x ∷ xs) (y ∷ ys) [] f g = absurd g
same_chain (x ∷ xs) (y ∷ ys) (z ∷ zs) f g = (f.0 ∙ g.0, same_chain xs ys zs f.1 g.1)

-- dot products with them
dot_same : (ks xs ys : List ℤ) → AreSame xs ys → IsSame (dot ks xs) (dot ks ys)
dot_same [] xs ys all = refl
dot_same (k ∷ ks) [] [] all = refl
dot_same (k ∷ ks) [] (y ∷ ys) all = absurd all
dot_same (k ∷ ks) (x ∷ xs) [] all = absurd all
dot_same (k ∷ ks) (x ∷ xs) (y ∷ ys) all =
    sum_same (k *ℤ x) (k *ℤ y) (dot ks xs) (dot ks ys) (product_same k x y all.0) (dot_same ks xs ys all.1)

-- values of forms at them
pub value_same : (form : Affine) (xs ys : List ℤ) → AreSame xs ys → IsSame (value_of form xs) (value_of form ys)
value_same form xs ys all =
    sum_same (dot form.coefficients xs) (dot form.coefficients ys) form.constant form.constant
    (dot_same form.coefficients xs ys all) refl

pub values_same : (forms : List Affine) (xs ys : List ℤ) → AreSame xs ys → AreSame (values forms xs) (values forms ys)
values_same [] xs ys all = tt
values_same (form ∷ forms) xs ys all = (value_same form xs ys all, values_same forms xs ys all)

-- one step of Horner's rule
pub horner_same : (extent : ℕ) (s t a b : ℤ) → IsSame s t → IsSame a b
    → IsSame (s +ℤ (pos extent *ℤ a)) (t +ℤ (pos extent *ℤ b))
horner_same extent s t a b e f =
    sum_same s t (pos extent *ℤ a) (pos extent *ℤ b) e (product_same (pos extent) a b f)

-- row-major offsets
pub offset_same : (extents : List ℕ) (a b : ℤ) (ss ts : List ℤ) → IsSame a b → AreSame ss ts
    → IsSame (row_major a extents ss) (row_major b extents ts)
offset_same [] a b ss ts e all = e
offset_same (extent ∷ extents) a b [] [] e all = e
offset_same (extent ∷ extents) a b [] (t ∷ ts) e all = absurd all
offset_same (extent ∷ extents) a b (s ∷ ss) [] e all = absurd all
offset_same (extent ∷ extents) a b (s ∷ ss) (t ∷ ts) e all =
    offset_same extents (s +ℤ (pos extent *ℤ a)) (t +ℤ (pos extent *ℤ b)) ss ts
    (horner_same extent s t a b all.0 e) all.1

-- a dot product by its first entries, where the second list may have none
first_product : (x : ℤ) (xs ks : List ℤ) → dot (x ∷ xs) ks ≡ (x *ℤ get_or ks 0 (pos 0)) +ℤ dot xs (drop 1 ks)
first_product x xs [] = let none = dot-nil xs in let zero_times = mul_zero_right x in omega (arith, ints)
first_product x xs (k ∷ ks) = refl

entry_behind : (ks : List ℤ) (i : ℕ) → get_or (drop 1 ks) i (pos 0) ≡ get_or ks (suc i) (pos 0)
entry_behind [] i = refl
entry_behind (k ∷ ks) i = refl

-- dot products with lists that are the same as far as the other goes, where a missing entry is 0
dot_same_front : (xs ks ms : List ℤ)
    → ((i : ℕ) → i < length xs → IsSame (get_or ks i (pos 0)) (get_or ms i (pos 0)))
    → IsSame (dot xs ks) (dot xs ms)
dot_same_front [] ks ms each = refl
dot_same_front (x ∷ xs) ks ms each =
    ap (int_wrap w64) (first_product x xs ks)
    ∙ (sum_same (x *ℤ get_or ks 0 (pos 0)) (x *ℤ get_or ms 0 (pos 0)) (dot xs (drop 1 ks)) (dot xs (drop 1 ms))
    (product_same x (get_or ks 0 (pos 0)) (get_or ms 0 (pos 0)) (each 0 (omega arith)))
    (dot_same_front xs (drop 1 ks) (drop 1 ms) (λ i less.
    ap (int_wrap w64) (entry_behind ks i) ∙ (each (suc i) (omega (arith, less)) ∙ sym
    (ap (int_wrap w64) (entry_behind ms i)))))
    ∙ sym (ap (int_wrap w64) (first_product x xs ms)))

-- values of two forms that are the same up to their n-th coefficients, at points that are no longer
pub forms_same : (n : ℕ) (f g : Affine) (xs : List ℤ) → length xs ≤ n → IsSame f.constant g.constant
    → ((i : ℕ) → i < n → IsSame (get_or f.coefficients i (pos 0)) (get_or g.coefficients i (pos 0)))
    → IsSame (value_of f xs) (value_of g xs)
forms_same n f g xs few constant each =
    sum_same (dot f.coefficients xs) (dot g.coefficients xs) f.constant g.constant
    (ap (int_wrap w64) (dot_comm f.coefficients xs)
    ∙ (dot_same_front xs f.coefficients g.coefficients (λ i less. each i (omega (arith, less, few)))
    ∙ ap (int_wrap w64) (dot_comm xs g.coefficients))) constant
