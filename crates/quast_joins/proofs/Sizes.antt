-- The numbers of a join: its leaves' are as small as those of both, and its tests fit 128 bits.
use Rattle.quast_joins.proofs.Common.{◌≡◌, ℕ, zero, suc, ◌^◌, ℤ, pos, negsuc, ◌+ℤ◌, ◌-ℤ◌, ◌*ℤ◌, ◌≤ℤ◌, List, [], ◌∷◌}
use Rattle.quast_joins.proofs.Common.{◌++◌, map, refl, arith, ints, Affine, form_of, fits, zeros, sums, multiples, Tree}
use Rattle.quast_joins.proofs.Common.{shifted, shifted_form, less_by_one, test_of, join, leaf_limit, AreWithin}
use Rattle.quast_joins.proofs.Common.{IsFormWithin, AreFormsWithin, LeavesWithin}
use Rattle.whole_numbers.proofs.Common.{Result, Ok, Err, lt-ltb}
use Rattle.std.proofs.Common.{IsTrue}
use Rattle.wide_math.specs.declared.Op.TheVariants.{Sub, Mul}
use Rattle.wide_math.specs.declared.Wide.{Wide}
use Rattle.wide_math.specs.Checked.{cross_of}
use Rattle.wide_math.proofs.Steps.{checked-fits}
use Rattle.affine_forms.specs.Runs.{zip_run, multiples_difference_run, forms_difference_run}
use Rattle.quast_joins.specs.declared.way.Way.{Way}
use Rattle.quast_joins.specs.declared.way.Way.TheVariants.{Later, Earlier}
use Rattle.quast_joins.proofs.JoinedLeaves.{join_leaves}
use Rattle.quast_joins.specs.Sizes.{IsWithin}

-- numbers within a bound are within twice that
wider : (bound : ℤ) (xs : List ℤ) → pos 0 ≤ℤ bound → AreWithin bound xs → AreWithin (bound +ℤ bound) xs
wider bound [] up h = tt
wider bound (x ∷ xs) up h =
    let a = h.0.0 in
    let b = h.0.1 in
    ((omega (arith, ints), omega (arith, ints)), wider bound xs up h.1)

-- and so are their opposites
opposites : (bound : ℤ) (xs : List ℤ) → pos 0 ≤ℤ bound → AreWithin bound xs
    → AreWithin (bound +ℤ bound) (multiples (negsuc 0) xs)
opposites bound [] up h = tt
opposites bound (x ∷ xs) up h =
    let a = h.0.0 in
    let b = h.0.1 in
    ((omega (arith, ints), omega (arith, ints)), opposites bound xs up h.1)

-- and the differences of two lists of them
differences : (bound : ℤ) (xs ys : List ℤ) → pos 0 ≤ℤ bound → AreWithin bound xs → AreWithin bound ys
    → AreWithin (bound +ℤ bound) (sums xs (multiples (negsuc 0) ys))
differences bound [] ys up h k = opposites bound ys up k
differences bound (x ∷ xs) [] up h k = wider bound (x ∷ xs) up h
differences bound (x ∷ xs) (y ∷ ys) up h k =
    let a = h.0.0 in
    let b = h.0.1 in
    let c = k.0.0 in
    let d = k.0.1 in
    ((omega (arith, ints), omega (arith, ints)), differences bound xs ys up h.1 k.1)

-- f - g - 1
less_within : (bound : ℤ) (f g : Affine) → pos 0 ≤ℤ bound → IsFormWithin bound f → IsFormWithin bound g
    → AreWithin (bound +ℤ bound) (less_by_one f g).coefficients
    × IsWithin ((bound +ℤ bound) +ℤ pos 1) (less_by_one f g).constant
less_within bound f g up h k =
    let a = h.1.0 in
    let b = h.1.1 in
    let c = k.1.0 in
    let d = k.1.1 in
    (differences bound f.coefficients g.coefficients up h.0 k.0, (omega (arith, ints), omega (arith, ints)))

-- a test's coefficients are at most twice the bound, its constant at most that and 1
pub test_within : (way : Way) (bound : ℤ) (f g : Affine) → pos 0 ≤ℤ bound → IsFormWithin bound f
    → IsFormWithin bound g
    → AreWithin (bound +ℤ bound) (test_of way f g).coefficients
    × IsWithin ((bound +ℤ bound) +ℤ pos 1) (test_of way f g).constant
test_within Later bound f g up h k = less_within bound f g up h k
test_within Earlier bound f g up h k = less_within bound g f up k h

-- zeros are within any bound
zeros_within : (bound : ℤ) (k : ℕ) → pos 0 ≤ℤ bound → AreWithin bound (zeros k)
zeros_within bound zero up = tt
zeros_within bound (suc k) up = ((omega (arith, ints), up), zeros_within bound k up)

-- two lists joined
append_within : (bound : ℤ) (xs ys : List ℤ) → AreWithin bound xs → AreWithin bound ys → AreWithin bound (xs ++ ys)
append_within bound [] ys h k = k
append_within bound (x ∷ xs) ys h k = (h.0, append_within bound xs ys h.1 k)

-- zeros put in
shifted_within : (bound : ℤ) (n k : ℕ) (xs : List ℤ) → pos 0 ≤ℤ bound → AreWithin bound xs
    → AreWithin bound (shifted n k xs)
shifted_within bound zero k xs up h = append_within bound (zeros k) xs (zeros_within bound k up) h
shifted_within bound (suc n) k [] up h = zeros_within bound k up
shifted_within bound (suc n) k (x ∷ xs) up h = (h.0, shifted_within bound n k xs up h.1)

-- moved forms
pub forms_shifted : (bound : ℤ) (n k : ℕ) (fs : List Affine) → pos 0 ≤ℤ bound → AreFormsWithin bound fs
    → AreFormsWithin bound (map (shifted_form n k) fs)
forms_shifted bound n k [] up h = tt
forms_shifted bound n k (f ∷ fs) up h =
    ((shifted_within bound n k f.coefficients up h.0.0, h.0.1), forms_shifted bound n k fs up h.1)

-- the join's leaves are as small as those of both
pub join_within : (way : Way) (bound : ℤ) (n : ℕ) (a b : Tree) → pos 0 ≤ℤ bound → LeavesWithin bound a
    → LeavesWithin bound b → LeavesWithin bound (join way n a b)
join_within way bound n a b up h s =
    join_leaves (λ l. AreFormsWithin bound l.forms) (λ n k l is. forms_shifted bound n k l.forms up is) way n a b h s

-- numbers up to 2^126 fit
fits_small : (z : ℤ) → (pos 0 -ℤ pos (2 ^ 126)) ≤ℤ z → z ≤ℤ pos (2 ^ 126) → IsTrue (fits z)
fits_small (pos n) low high = lt-ltb n (2 ^ 127) (omega (arith, ints))
fits_small (negsuc n) low high = lt-ltb n (2 ^ 127) (omega (arith, ints))

-- a difference of two numbers of leaves
cross_fits : (x y : ℤ) → IsWithin leaf_limit x → IsWithin leaf_limit y
    → (z : ℤ) × (cross_of (pos 1) x (pos 1) y ≡ Ok z)
unfolding cross_of
cross_fits x y h k =
    let h0 = h.0 in
    let h1 = h.1 in
    let k0 = k.0 in
    let k1 = k.1 in
    let p = pos 1 *ℤ x in
    let q = pos 1 *ℤ y in
    let left = checked-fits Mul (pos 1) x p (fits_small p (omega (arith, ints)) (omega (arith, ints))) in
    let right = checked-fits Mul (pos 1) y q (fits_small q (omega (arith, ints)) (omega (arith, ints))) in
    let all = checked-fits Sub p q (p -ℤ q) (fits_small (p -ℤ q) (omega (arith, ints)) (omega (arith, ints))) in
    (p -ℤ q, rw (left, right, all) refl)

-- of two lists of them
zip_fits : (xs ys : List ℤ) → AreWithin leaf_limit xs → AreWithin leaf_limit ys
    → (zs : List ℤ) × (zip_run (λ x y. cross_of (pos 1) x (pos 1) y) xs ys ≡ Ok zs)
zip_fits [] ys h k = ([], refl)
zip_fits (x ∷ xs) [] h k = ([], refl)
zip_fits (x ∷ xs) (y ∷ ys) h k =
    let a = cross_fits x y h.0 k.0 in
    let b = zip_fits xs ys h.1 k.1 in
    (a.0 ∷ b.0, rw (a.1, b.1) refl)

-- of two forms of leaves
difference_fits : (f g : Affine) → IsFormWithin leaf_limit f → IsFormWithin leaf_limit g
    → (h : Affine) × (forms_difference_run (pos 1) f (pos 1) g ≡ Ok h)
unfolding forms_difference_run multiples_difference_run
difference_fits f g h k =
    let a = zip_fits f.coefficients g.coefficients h.0 k.0 in
    let b = cross_fits f.constant g.constant h.1 k.1 in
    (form_of a.0 b.0, rw (a.1, b.1) refl)

-- what ended well did not fail
no_error : {A : Type 0} (r : Result A Wide) (x : A) (w : Wide) → r ≡ Ok x → r ≡ Err w → ⊥
no_error r x w h k = absurd cc

-- so the difference of two forms of leaves is never too wide
pub never_wide : (f g : Affine) (w : Wide) → IsFormWithin leaf_limit f → IsFormWithin leaf_limit g
    → forms_difference_run (pos 1) f (pos 1) g ≡ Err w → ⊥
never_wide f g w h k wide =
    let d = difference_fits f g h k in
    no_error (forms_difference_run (pos 1) f (pos 1) g) d.0 w d.1 wide
