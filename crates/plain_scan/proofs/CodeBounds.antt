-- Bounds, tests and leaves as code makes them.
use Rattle.scop_syntax.proofs.Common.{◌≡◌, ℕ, zero, suc, ◌+◌, ◌-◌, ◌<◌, ℤ, pos, negsuc, List, [], ◌∷◌, ◌++◌, ◌≤◌}
use Rattle.scop_syntax.proofs.Common.{length, get_or, map, take, refl, ap, ap₂, subst, sym, ◌∙◌, arith, map-append}
use Rattle.scop_syntax.proofs.Common.{neg_ℤ, ◌*ℤ◌, ints, multiples, Affine, form_of, multiple_of_form, mul_one_left}
use Rattle.scop_syntax.proofs.Common.{mul_neg_left}
use Rattle.fractions.specs.Elimination.{coefficient_of}
use Rattle.loop_tree.specs.Tree.{Bound, besides, bounds_of, Test, at_least, equal, Tree, guard, more, none}
use Rattle.loop_tree.specs.View.{trees_of}
use Rattle.plain_scan.specs.declared.set_outline.Outline.{Outline}
use Rattle.plain_scan.specs.Sets.{equal_tests, place_forms, row_tests, under, leaves}
use Rattle.fm_projection.specs.Alone.{place_form}
use Rattle.plain_scan.specs.Rows.{low_bound, high_bound, low_bounds, high_bounds}
use Rattle.plain_scan.specs.Sorting.{if_above, if_below, lows_in, highs_in}
use Rattle.plain_scan.specs.Hulls.{own_leaf, leaf_tree, sets_in}

take_suc : {X : Type 0} (xs : List X) (i : ℕ) (x : X) → x ≡ get_or xs i x → i < length xs
    → take (suc i) xs ≡ take i xs ++ x ∷ []
take_suc [] i x is inside = absurd (omega (arith, inside))
take_suc (y ∷ xs) zero x is inside = ap (λ z. z ∷ []) (sym is)
take_suc (y ∷ xs) (suc i) x is inside = ap (λ zs. y ∷ zs) (take_suc xs i x is (omega (arith, inside)))

pub take_next : {X : Type 0} (xs : List X) (i : ℕ) (x : X) → x ≡ get_or xs i x → i < length xs
    → take (i + 1) xs ≡ take i xs ++ x ∷ []
take_next {X} xs i x is inside =
    let e : suc i ≡ i + 1 = omega arith in subst (λ (k : ℕ). take k xs ≡ take i xs ++ x ∷ []) e
    (take_suc xs i x is inside)

above_append : (z : ℤ) (f : Affine) (xs ys : List Affine) → if_above z f (xs ++ ys) ≡ if_above z f xs ++ ys
above_append (pos zero) f xs ys = refl
above_append (pos (suc n)) f xs ys = refl
above_append (negsuc n) f xs ys = refl

below_append : (z : ℤ) (f : Affine) (xs ys : List Affine) → if_below z f (xs ++ ys) ≡ if_below z f xs ++ ys
below_append (pos n) f xs ys = refl
below_append (negsuc n) f xs ys = refl

lows_append : (m : ℕ) (xs ys : List Affine) → lows_in m (xs ++ ys) ≡ lows_in m xs ++ lows_in m ys
lows_append m [] ys = refl
lows_append m (f ∷ xs) ys = ap (if_above (coefficient_of m f) f) (lows_append m xs ys)
    ∙ above_append (coefficient_of m f) f (lows_in m xs) (lows_in m ys)

highs_append : (m : ℕ) (xs ys : List Affine) → highs_in m (xs ++ ys) ≡ highs_in m xs ++ highs_in m ys
highs_append m [] ys = refl
highs_append m (f ∷ xs) ys = ap (if_below (coefficient_of m f) f) (highs_append m xs ys)
    ∙ below_append (coefficient_of m f) f (highs_in m xs) (highs_in m ys)

pub low_next : (m : ℕ) (xs : List Affine) (i : ℕ) (f : Affine) (old new : List Bound) → f ≡ get_or xs i f
    → i < length xs
    → old ≡ map (low_bound m) (lows_in m (take i xs)) → new ≡ old ++ map (low_bound m) (lows_in m (f ∷ []))
    → new ≡ map (low_bound m) (lows_in m (take (i + 1) xs))
low_next m xs i f old new is inside old_is new_is =
    new_is ∙ ap (λ bs. bs ++ map (low_bound m) (lows_in m (f ∷ []))) old_is
    ∙ sym (ap (λ gs. map (low_bound m) (lows_in m gs)) (take_next xs i f is inside)
    ∙ ap (map (low_bound m)) (lows_append m (take i xs) (f ∷ []))
    ∙ map-append (low_bound m) (lows_in m (take i xs)) (lows_in m (f ∷ [])))

pub high_next : (m : ℕ) (xs : List Affine) (i : ℕ) (f : Affine) (old new : List Bound) → f ≡ get_or xs i f
    → i < length xs
    → old ≡ map (high_bound m) (highs_in m (take i xs)) → new ≡ old ++ map (high_bound m) (highs_in m (f ∷ []))
    → new ≡ map (high_bound m) (highs_in m (take (i + 1) xs))
high_next m xs i f old new is inside old_is new_is =
    new_is ∙ ap (λ bs. bs ++ map (high_bound m) (highs_in m (f ∷ []))) old_is
    ∙ sym (ap (λ gs. map (high_bound m) (highs_in m gs)) (take_next xs i f is inside)
    ∙ ap (map (high_bound m)) (highs_append m (take i xs) (f ∷ []))
    ∙ map-append (high_bound m) (highs_in m (take i xs)) (highs_in m (f ∷ [])))

low_list : (m : ℕ) (f : Affine) (gs : List Affine)
    → bounds_of (low_bound m f) (map (low_bound m) gs) ≡ low_bounds m f gs
low_list m f [] = refl
low_list m f (g ∷ gs) = ap (besides (low_bound m f)) (low_list m g gs)

high_list : (m : ℕ) (f : Affine) (gs : List Affine)
    → bounds_of (high_bound m f) (map (high_bound m) gs) ≡ high_bounds m f gs
high_list m f [] = refl
high_list m f (g ∷ gs) = ap (besides (high_bound m f)) (high_list m g gs)

none_taken : {X : Type 0} (i : ℕ) (xs : List X) → xs ≡ [] → take i xs ≡ []
none_taken zero xs e = refl
none_taken (suc i) [] e = refl
none_taken (suc i) (x ∷ xs) e = absurd (let l = ap length e in omega (arith, l))

pub take_all : {X : Type 0} (xs : List X) (i : ℕ) → length xs ≤ i → take i xs ≡ xs
take_all [] i past = none_taken i [] refl
take_all (x ∷ xs) zero past = absurd (omega (arith, past))
take_all (x ∷ xs) (suc i) past = ap (λ zs. x ∷ zs) (take_all xs i (omega (arith, past)))

pub low_end : (m : ℕ) (f : Affine) (xs : List Affine) (b : Bound) (others : List Bound) → b ≡ low_bound m f
    → others ≡ map (low_bound m) (lows_in m xs)
    → bounds_of b others ≡ low_bounds m f (lows_in m xs)
low_end m f xs b others first is = ap₂ bounds_of first is ∙ low_list m f (lows_in m xs)

pub high_end : (m : ℕ) (f : Affine) (xs : List Affine) (b : Bound) (others : List Bound) → b ≡ high_bound m f
    → others ≡ map (high_bound m) (highs_in m xs)
    → bounds_of b others ≡ high_bounds m f (highs_in m xs)
high_end m f xs b others first is = ap₂ bounds_of first is ∙ high_list m f (highs_in m xs)

rows_are : (rs : List Affine) → row_tests rs ≡ map at_least rs
rows_are [] = refl
rows_are (f ∷ rs) = ap (λ ts. at_least f ∷ ts) (rows_are rs)

pub tests_are : (es rs : List Affine) → equal_tests es (row_tests rs) ≡ map equal es ++ map at_least rs
tests_are [] rs = rows_are rs
tests_are (f ∷ es) rs = ap (λ ts. equal f ∷ ts) (tests_are es rs)

-- no tests, no guard
pub under_none : (tests : List Test) (t : Tree) → length tests ≡ 0 → under tests t ≡ t
under_none [] t empty = refl
under_none (test ∷ tests) t empty = absurd (omega (arith, empty))

pub under_some : (tests : List Test) (t : Tree) → 0 < length tests → under tests t ≡ guard tests (more t none)
under_some [] t some = absurd (omega (arith, some))
under_some (test ∷ tests) t some = refl

pub leaves_are : (os : List Outline) → trees_of (map (λ o. leaf_tree (o.set.now)) os) ≡ leaves
    (map own_leaf (sets_in os))
leaves_are [] = refl
leaves_are (o ∷ os) = ap (more (leaf_tree (o.set.now))) (leaves_are os)

append_more : {X : Type 0} (xs : List X) (x : X) (r : List X) → (xs ++ x ∷ []) ++ r ≡ xs ++ x ∷ r
append_more [] x r = refl
append_more (y ∷ xs) x r = ap (λ q. y ∷ q) (append_more xs x r)

-- a turn more
pub turns_next : (n f k i : ℕ) (old new all : List Affine) (form : Affine) → i < k
    → old ++ place_forms n (f + i) (k - i) ≡ all → new ≡ old ++ form ∷ []
    → form ≡ place_form n (f + i) (pos 1) (pos 0)
    → new ++ place_forms n (f + (i + 1)) (k - (i + 1)) ≡ all
turns_next n f k i old new all form less inv is form_is =
    let e : k - i ≡ suc (k - (i + 1)) = omega (arith, less) in
    let p : f + (i + 1) ≡ suc (f + i) = omega arith in
    let rest = place_forms n (suc (f + i)) (k - (i + 1)) in
    ap (λ xs. xs ++ place_forms n (f + (i + 1)) (k - (i + 1))) is
    ∙ append_more old form (place_forms n (f + (i + 1)) (k - (i + 1)))
    ∙ ap (λ q. old ++ form ∷ place_forms n q (k - (i + 1))) p
    ∙ ap (λ g. old ++ g ∷ rest) form_is
    ∙ ap (λ m. old ++ place_forms n (f + i) m) (sym e)
    ∙ inv

opposite_is : (c : ℤ) → neg_ℤ (pos 1) *ℤ c ≡ neg_ℤ c
opposite_is c = let a = mul_neg_left (pos 1) c in let b = mul_one_left c in omega (arith, ints)

opposites_are : (xs : List ℤ) → map neg_ℤ xs ≡ multiples (neg_ℤ (pos 1)) xs
opposites_are [] = refl
opposites_are (x ∷ xs) = ap₂ (λ (y : ℤ) (ys : List ℤ). y ∷ ys) (sym (opposite_is x)) (opposites_are xs)

-- the opposite of a form by its numbers
pub opposite_end : (f : Affine) (cs : List ℤ) (c : ℤ) → cs ≡ map neg_ℤ f.coefficients → c ≡ neg_ℤ f.constant
    → form_of cs c ≡ multiple_of_form (neg_ℤ (pos 1)) f
opposite_end f cs c numbers constant =
    ap₂ form_of (numbers ∙ opposites_are f.coefficients) (constant ∙ sym (opposite_is f.constant))

pub take_none : {X : Type 0} (xs : List X) → take 0 xs ≡ []
take_none [] = refl
take_none (x ∷ xs) = refl
