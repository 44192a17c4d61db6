-- A join speaks of the variables that stand at each place.
use Rattle.quast_joins.proofs.Common.{◌≡◌, ℕ, zero, suc, ◌+◌, Bool, true, false, ℤ, negsuc, List, [], ◌∷◌, length, map}
use Rattle.quast_joins.proofs.Common.{sym, subst, ◌∙◌, length-append, arith, nat_eq, if◌then◌else◌, Affine, zeros}
use Rattle.quast_joins.proofs.Common.{multiples, length-zeros, Forms, Tree, initial, leaf, branch, bind, Speaks}
use Rattle.quast_joins.proofs.Common.{statement_of, loops_of, text, shifted, shifted_form, shifted_leaf, widened}
use Rattle.quast_joins.proofs.Common.{less_by_one, test_of, last_leaf, chain, meet, under, moved, join_from, join}
use Rattle.whole_numbers.proofs.Common.{All, All-map, length-multiples, length-sums}
use Rattle.quast_joins.specs.declared.way.Way.{Way}
use Rattle.quast_joins.specs.declared.way.Way.TheVariants.{Later, Earlier}

-- the forms are over n variables
abbrev pub AreOver : ℕ → List Affine → Type 0
AreOver n fs = All (λ (f : Affine). length f.coefficients ≡ n) fs

-- a list with zeros put in is longer by them
length-shifted : (n k : ℕ) (cs : List ℤ) (j : ℕ) → length cs ≡ n + j → length (shifted n k cs) ≡ (n + k) + j
length-shifted zero k cs j h = length-append (zeros k) cs ∙ omega (arith, length-zeros k)
length-shifted (suc n) k [] j h = absurd (omega arith)
length-shifted (suc n) k (c ∷ cs) j h = let e = length-shifted n k cs j (omega arith) in omega arith

-- moved forms
pub each_shifted : (n k j : ℕ) (fs : List Affine) → AreOver (n + j) fs
    → AreOver ((n + k) + j) (map (shifted_form n k) fs)
each_shifted n k j fs h =
    All-map (λ (f : Affine). length f.coefficients ≡ (n + k) + j) (shifted_form n k) fs
    (λ i d inside. length-shifted n k _ j (h i d inside))

-- a moved leaf
pub shifted-speaks : (n k j : ℕ) (b : Forms) → Speaks (n + j) (leaf b)
    → Speaks ((n + k) + j) (leaf (shifted_leaf n k b))
shifted-speaks n k j b h = let e = h.0 in (omega arith, each_shifted n k j b.forms h.1)

-- a leaf over more variables
pub widened-speaks : (n j : ℕ) (a : Forms) → Speaks n (leaf a) → Speaks (n + j) (leaf (widened j a))
widened-speaks n j a h =
    let same = h.0 in
    let e : n ≡ a.variables + 0 = omega arith in
    let g : (a.variables + j) + 0 ≡ n + j = omega arith in
    subst (λ m. Speaks m (leaf (widened j a))) g
    (shifted-speaks a.variables j 0 a (subst (λ m. Speaks m (leaf a)) e h))

-- f - g - 1
length-less : (n : ℕ) (f g : Affine) → length f.coefficients ≡ n → length g.coefficients ≡ n
    → length (less_by_one f g).coefficients ≡ n
length-less n f g h k =
    let m = multiples (negsuc 0) g.coefficients in
    let a : length m ≡ n = length-multiples (negsuc 0) g.coefficients ∙ k in
    length-sums f.coefficients m (h ∙ sym a) ∙ h

-- a test
length-test : (way : Way) (n : ℕ) (f g : Affine) → length f.coefficients ≡ n → length g.coefficients ≡ n
    → length (test_of way f g).coefficients ≡ n
length-test Later n f g h k = length-less n f g h k
length-test Earlier n f g h k = length-less n g f k h

-- a choice of two trees
either_speaks : (b : Bool) (n : ℕ) (x y : Tree) → Speaks n x → Speaks n y → Speaks n (if b then x else y)
either_speaks true n x y h k = h
either_speaks false n x y h k = k

-- the tests over the common loops
chain-speaks : (way : Way) (n : ℕ) (a b end : Tree) (ks ls : List ℕ) (fs gs : List Affine) → Speaks n a
    → Speaks n b → Speaks n end → AreOver n fs → AreOver n gs → Speaks n (chain way a b end ks ls fs gs)
chain-speaks way n a b end [] ls fs gs p q r h k = r
chain-speaks way n a b end (i ∷ ks) [] fs gs p q r h k = r
chain-speaks way n a b end (i ∷ ks) (l ∷ ls) [] gs p q r h k = r
chain-speaks way n a b end (i ∷ ks) (l ∷ ls) (f ∷ fs) [] p q r h k = r
chain-speaks way n a b end (i ∷ ks) (l ∷ ls) (f ∷ fs) (g ∷ gs) p q r h k =
    let fl = h 0 f (omega arith) in
    let gl = k 0 g (omega arith) in
    let rest = chain-speaks way n a b end ks ls fs gs p q r (λ x d inside. h (suc x) d (omega arith))
    (λ x d inside. k (suc x) d (omega arith)) in
    either_speaks (nat_eq i l) n
    (branch (test_of way f g) a (branch (test_of way g f) b (chain way a b end ks ls fs gs))) end
    (length-test way n f g fl gl, p, (length-test way n g f gl fl, q, rest)) r

-- where two leaves meet
meet-speaks : (way : Way) (n : ℕ) (a b : Forms) → Speaks n (leaf a) → Speaks n (leaf b) → Speaks n (meet way a b)
meet-speaks way n a b h k =
    chain-speaks way n (leaf a) (leaf b) (last_leaf way a b) (loops_of a.source) (loops_of b.source) a.forms b.forms
    h k (either_speaks (text way (statement_of a.source) (statement_of b.source)) n (leaf a) (leaf b) h k) h.1 k.1

-- one variable more in a tree's body
body_in : (n j : ℕ) (x : Tree) → Speaks ((n + j) + 1) x → Speaks (n + suc j) x
body_in n j x h = let e : (n + j) + 1 ≡ n + suc j = omega arith in subst (λ m. Speaks m x) e h

-- and in the body that is made of it
body_out : (n k j : ℕ) (x : Tree) → Speaks ((n + k) + suc j) x → Speaks (((n + k) + j) + 1) x
body_out n k j x h = let e : (n + k) + suc j ≡ ((n + k) + j) + 1 = omega arith in subst (λ m. Speaks m x) e h

-- a tree under a leaf
under-speaks : (way : Way) (n k : ℕ) (a : Forms) (j : ℕ) (b : Tree) → Speaks (n + k) (leaf a) → Speaks (n + j) b
    → Speaks ((n + k) + j) (under way n k a j b)
under-speaks way n k a j initial h s = widened-speaks (n + k) j a h
under-speaks way n k a j (leaf b) h s =
    meet-speaks way ((n + k) + j) (widened j a) (shifted_leaf n k b) (widened-speaks (n + k) j a h)
    (shifted-speaks n k j b s)
under-speaks way n k a j (branch f x y) h s =
    (length-shifted n k f.coefficients j s.0, under-speaks way n k a j x h s.1, under-speaks way n k a j y h s.2)
under-speaks way n k a j (bind f d x) h s = (
  length-shifted n k f.coefficients j s.0,
  s.1,
  body_out n k j (under way n k a (suc j) x) (under-speaks way n k a (suc j) x h (body_in n j x s.2)),
)

-- a tree under the initial value
moved-speaks : (n k j : ℕ) (b : Tree) → Speaks (n + j) b → Speaks ((n + k) + j) (moved n k b)
moved-speaks n k j initial s = tt
moved-speaks n k j (leaf b) s = shifted-speaks n k j b s
moved-speaks n k j (branch f x y) s =
    (length-shifted n k f.coefficients j s.0, moved-speaks n k j x s.1, moved-speaks n k j y s.2)
moved-speaks n k j (bind f d x) s = (
  length-shifted n k f.coefficients j s.0,
  s.1,
  body_out n k j (moved n k x) (moved-speaks n k (suc j) x (body_in n j x s.2)),
)

-- the join where parameters are bound already
join_from-speaks : (way : Way) (n k : ℕ) (a b : Tree) → Speaks (n + k) a → Speaks n b
    → Speaks (n + k) (join_from way n k a b)
join_from-speaks way n k initial b h s =
    let e : n ≡ n + 0 = omega arith in
    let g : (n + k) + 0 ≡ n + k = omega arith in
    subst (λ m. Speaks m (moved n k b)) g (moved-speaks n k 0 b (subst (λ m. Speaks m b) e s))
join_from-speaks way n k (leaf a) b h s =
    let e : n ≡ n + 0 = omega arith in
    let g : (n + k) + 0 ≡ n + k = omega arith in
    subst (λ m. Speaks m (under way n k a 0 b)) g (under-speaks way n k a 0 b h (subst (λ m. Speaks m b) e s))
join_from-speaks way n k (branch f x y) b h s =
    (h.0, join_from-speaks way n k x b h.1 s, join_from-speaks way n k y b h.2 s)
join_from-speaks way n k (bind f d x) b h s =
    let e : (n + k) + 1 ≡ n + suc k = omega arith in
    let body = join_from-speaks way n (suc k) x b (subst (λ m. Speaks m x) e h.2) s in
    (h.0, h.1, subst (λ m. Speaks m (join_from way n (suc k) x b)) (sym e) body)

-- the join speaks of the variables of both
pub join-speaks : (way : Way) (n : ℕ) (a b : Tree) → Speaks n a → Speaks n b → Speaks n (join way n a b)
join-speaks way n a b h s =
    let e : n ≡ n + 0 = omega arith in
    subst (λ m. Speaks m (join way n a b)) (sym e) (join_from-speaks way n 0 a b (subst (λ m. Speaks m a) e h) s)
