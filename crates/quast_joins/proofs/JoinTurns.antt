-- 128 bits hold the rows by which a join is told.
use Rattle.quast_joins.proofs.Common.{◌≡◌, ℕ, zero, suc, ◌^◌, Bool, true, false, ℤ, pos, ◌+ℤ◌, ◌-ℤ◌, ◌≤ℤ◌, List, []}
use Rattle.quast_joins.proofs.Common.{◌∷◌, arith, nat_eq, if◌then◌else◌, ◌<ℤ◌, neg_ℤ, ints, Affine, complement, negsuc}
use Rattle.quast_joins.proofs.Common.{◌*ℤ◌, fits, zeros, Forms, Tree, initial, leaf, branch, bind, statement_of}
use Rattle.quast_joins.proofs.Common.{loops_of, text, shifted, shifted_form, shifted_leaf, widened, test_of, chain}
use Rattle.quast_joins.proofs.Common.{under, moved, join_from, join, leaf_limit, AreWithin, IsFormWithin}
use Rattle.quast_joins.proofs.Common.{AreFormsWithin, LeavesWithin}
use Rattle.whole_numbers.proofs.Common.{All-append, All-cons, All-head, All-nil, All-tail}
use Rattle.whole_numbers.proofs.Fits.{fits_range}
use Rattle.quast_joins.specs.declared.way.Way.{Way}
use Rattle.quast_joins.proofs.Sizes.{test_within, forms_shifted}
use Rattle.quast_trees.specs.Turns.{CanTell, IsHeld, rest_of}
use Rattle.quast_trees.proofs.HeldNumbers.{Opposed, opposed_of, opposed_to, opposed_zeros}

-- zeros put into a form
opposed-shifted : (n k : ℕ) (cs : List ℤ) → Opposed cs → Opposed (shifted n k cs)
opposed-shifted zero k cs h =
    All-append (λ c. fits (negsuc 0 *ℤ c) ≡ true) (zeros k) cs (opposed_zeros k) h
opposed-shifted (suc n) k [] h = opposed_zeros k
opposed-shifted (suc n) k (c ∷ cs) h =
    All-cons (λ c. fits (negsuc 0 *ℤ c) ≡ true) c (shifted n k cs)
    (All-head (λ c. fits (negsuc 0 *ℤ c) ≡ true) c cs h)
    (opposed-shifted n k cs (All-tail (λ c. fits (negsuc 0 *ℤ c) ≡ true) c cs h))

complement-shifted : (n k : ℕ) (f : Affine) → IsHeld (complement f) → IsHeld (complement (shifted_form n k f))
complement-shifted n k f h =
    record {
      coefficients = opposed_to (shifted n k f.coefficients)
          (opposed-shifted n k f.coefficients (opposed_of f.coefficients h.coefficients));
      constant = h.constant;
    }

rest-shifted : (n k : ℕ) (f : Affine) (d : ℤ) → IsHeld (rest_of f d) → IsHeld (rest_of (shifted_form n k f) d)
rest-shifted n k f d h =
    record {
      coefficients = opposed_to (shifted n k f.coefficients)
          (opposed-shifted n k f.coefficients (opposed_of f.coefficients h.coefficients));
      constant = h.constant;
    }

-- tests of two small forms
small_held : (z : ℤ) → neg_ℤ (pos (2 ^ 127)) ≤ℤ z → z <ℤ pos (2 ^ 127) → fits z ≡ true
small_held z low high = (fits_range z).1 (low, high)

opposed_within : (xs : List ℤ) → AreWithin (leaf_limit +ℤ leaf_limit) xs → Opposed xs
opposed_within [] h = All-nil (λ c. fits (negsuc 0 *ℤ c) ≡ true)
opposed_within (x ∷ xs) h =
    let low = h.0.0 in
    let high = h.0.1 in
    All-cons (λ c. fits (negsuc 0 *ℤ c) ≡ true) x xs
    (small_held (negsuc 0 *ℤ x) (omega (arith, ints)) (omega (arith, ints))) (opposed_within xs h.1)

test-held : (way : Way) (f g : Affine) → IsFormWithin leaf_limit f → IsFormWithin leaf_limit g
    → IsHeld (complement (test_of way f g))
test-held way f g h k =
    let t = test_of way f g in
    let w = test_within way leaf_limit f g (omega (arith, ints)) h k in
    let low = w.1.0 in
    let high = w.1.1 in
    record {
      coefficients = opposed_to t.coefficients (opposed_within t.coefficients w.0);
      constant = small_held (neg_ℤ t.constant -ℤ pos 1) (omega (arith, ints)) (omega (arith, ints));
    }

end-tells : (e : Bool) (a b : Forms) → CanTell (if e then leaf a else leaf b)
end-tells true a b = tt
end-tells false a b = tt

step-tells : (same e : Bool) (f g : Affine) (a b : Forms) (rest : Tree) → IsHeld (complement f)
    → IsHeld (complement g) → CanTell rest
    → CanTell (if same then branch f (leaf a) (branch g (leaf b) rest) else (if e then leaf a else leaf b))
step-tells true e f g a b rest p q h = (p, tt, (q, tt, h))
step-tells false e f g a b rest p q h = end-tells e a b

chain-tells : (way : Way) (a b : Forms) (s t : ℕ) (ks ls : List ℕ) (fs gs : List Affine)
    → AreFormsWithin leaf_limit fs → AreFormsWithin leaf_limit gs
    → CanTell (chain way (leaf a) (leaf b) (if text way s t then leaf a else leaf b) ks ls fs gs)
chain-tells way a b s t [] ls fs gs h g = end-tells (text way s t) a b
chain-tells way a b s t (k ∷ ks) [] fs gs h g = end-tells (text way s t) a b
chain-tells way a b s t (k ∷ ks) (l ∷ ls) [] gs h g = end-tells (text way s t) a b
chain-tells way a b s t (k ∷ ks) (l ∷ ls) (f ∷ fs) [] h g = end-tells (text way s t) a b
chain-tells way a b s t (k ∷ ks) (l ∷ ls) (f ∷ fs) (e ∷ gs) h g =
    step-tells (nat_eq k l) (text way s t) (test_of way f e) (test_of way e f) a b
    (chain way (leaf a) (leaf b) (if text way s t then leaf a else leaf b) ks ls fs gs)
    (test-held way f e h.0 g.0) (test-held way e f g.0 h.0) (chain-tells way a b s t ks ls fs gs h.1 g.1)

under-tells : (way : Way) (n k : ℕ) (a : Forms) (j : ℕ) (b : Tree) → AreFormsWithin leaf_limit a.forms
    → LeavesWithin leaf_limit b → CanTell b → CanTell (under way n k a j b)
under-tells way n k a j initial h g tells = tt
under-tells way n k a j (leaf b) h g tells =
    chain-tells way (widened j a) (shifted_leaf n k b) (statement_of a.source) (statement_of b.source)
    (loops_of a.source) (loops_of b.source) (widened j a).forms (shifted_leaf n k b).forms
    (forms_shifted leaf_limit a.variables j a.forms (omega (arith, ints)) h)
    (forms_shifted leaf_limit n k b.forms (omega (arith, ints)) g)
under-tells way n k a j (branch f x y) h g tells =
    (complement-shifted n k f tells.0, under-tells way n k a j x h g.0 tells.1, under-tells way n k a j y h g.1 tells.2)
under-tells way n k a j (bind f d x) h g tells =
    (tells.0, rest-shifted n k f d tells.1, under-tells way n k a (suc j) x h g tells.2)

moved-tells : (n k : ℕ) (b : Tree) → CanTell b → CanTell (moved n k b)
moved-tells n k initial tells = tt
moved-tells n k (leaf b) tells = tt
moved-tells n k (branch f x y) tells =
    (complement-shifted n k f tells.0, moved-tells n k x tells.1, moved-tells n k y tells.2)
moved-tells n k (bind f d x) tells =
    (tells.0, rest-shifted n k f d tells.1, moved-tells n k x tells.2)

join_from-tells : (way : Way) (n k : ℕ) (a b : Tree) → LeavesWithin leaf_limit a → LeavesWithin leaf_limit b
    → CanTell a → CanTell b → CanTell (join_from way n k a b)
join_from-tells way n k initial b h g first second = moved-tells n k b second
join_from-tells way n k (leaf a) b h g first second = under-tells way n k a 0 b h g second
join_from-tells way n k (branch f x y) b h g first second =
    (first.0, join_from-tells way n k x b h.0 g first.1 second, join_from-tells way n k y b h.1 g first.2 second)
join_from-tells way n k (bind f d x) b h g first second =
    (first.0, first.1, join_from-tells way n (suc k) x b h g first.2 second)

pub join-tells : (way : Way) (n : ℕ) (a b : Tree) → LeavesWithin leaf_limit a → LeavesWithin leaf_limit b
    → CanTell a → CanTell b → CanTell (join way n a b)
join-tells way n a b h g first second = join_from-tells way n 0 a b h g first second
