-- The value of a join is the wanted one of the two values.
use Rattle.quast_joins.proofs.Common.{◌≡◌, ℕ, zero, suc, ◌+◌, Bool, true, false, ℤ, pos, negsuc, ◌+ℤ◌, ◌-ℤ◌, ◌*ℤ◌, List}
use Rattle.quast_joins.proofs.Common.{[], ◌∷◌, ◌++◌, length, map, refl, sym, ap, ap₂, subst, ◌∙◌, length-append, arith}
use Rattle.quast_joins.proofs.Common.{nat_eq, if◌then◌else◌, ints, Affine, value_of, complement, floor, zeros}
use Rattle.quast_joins.proofs.Common.{length-zeros, Forms, Tree, initial, leaf, branch, bind, Speaks, value}
use Rattle.quast_joins.proofs.Common.{statement_of, loops_of, text, shifted, shifted_form, shifted_leaf, widened}
use Rattle.quast_joins.proofs.Common.{less_by_one, test_of, chain, meet, under, moved, join_from, join}
use Rattle.whole_numbers.proofs.Common.{values_of, dot, dot-append, dot-zeros, value_of-sum, value_of-complement}
use Rattle.std.proofs.lemmas.List.{append_assoc, append-nil}
use Rattle.quast_trees.specs.Leaf.{Leaf, found}
use Rattle.quast_trees.specs.Value.{by_sign}
use Rattle.quast_joins.specs.Ways.{ahead, first_stands, chosen}
use Rattle.quast_joins.specs.declared.way.Way.{Way}
use Rattle.quast_joins.specs.declared.way.Way.TheVariants.{Later, Earlier}

-- moved variables read the same values
dot-shifted : (n k : ℕ) (cs point middle rest : List ℤ) → length point ≡ n → length middle ≡ k
    → dot (shifted n k cs) (point ++ (middle ++ rest)) ≡ dot cs (point ++ rest)
dot-shifted zero k cs [] middle rest h g =
    let e = dot-append (zeros k) cs middle rest (length-zeros k ∙ sym g) in
    let f = dot-zeros k middle in
    omega (arith, ints)
dot-shifted zero k cs (x ∷ point) middle rest h g = absurd (omega arith)
dot-shifted (suc n) k [] point middle rest h g = dot-zeros k (point ++ (middle ++ rest))
dot-shifted (suc n) k (c ∷ cs) [] middle rest h g = absurd (omega arith)
dot-shifted (suc n) k (c ∷ cs) (x ∷ point) middle rest h g =
    ap (λ (z : ℤ). (c *ℤ x) +ℤ z) (dot-shifted n k cs point middle rest (omega arith) g)

-- so a form has the same value
pub value-shifted : (n k : ℕ) (f : Affine) (point middle rest : List ℤ) → length point ≡ n → length middle ≡ k
    → value_of (shifted_form n k f) (point ++ (middle ++ rest)) ≡ value_of f (point ++ rest)
value-shifted n k f point middle rest h g =
    ap (λ (z : ℤ). z +ℤ f.constant) (dot-shifted n k f.coefficients point middle rest h g)

-- and forms have the same values
values-shifted : (n k : ℕ) (fs : List Affine) (point middle rest : List ℤ) → length point ≡ n → length middle ≡ k
    → values_of (map (shifted_form n k) fs) (point ++ (middle ++ rest)) ≡ values_of fs (point ++ rest)
values-shifted n k [] point middle rest h g = refl
values-shifted n k (f ∷ fs) point middle rest h g =
    ap₂ (λ (z : ℤ) (zs : List ℤ). z ∷ zs) (value-shifted n k f point middle rest h g)
    (values-shifted n k fs point middle rest h g)

-- a leaf over more variables has its own values
values-widened : (j : ℕ) (a : Forms) (point middle more : List ℤ) → a.variables ≡ length (point ++ middle)
    → length more ≡ j
    → values_of (widened j a).forms (point ++ (middle ++ more)) ≡ values_of a.forms (point ++ middle)
values-widened j a point middle more h g =
    ap (values_of (widened j a).forms) (sym (append_assoc point middle more)
    ∙ ap (λ us. (point ++ middle) ++ us) (sym (append-nil more)))
    ∙ values-shifted a.variables j a.forms (point ++ middle) more [] (sym h) g
    ∙ ap (values_of a.forms) (append-nil (point ++ middle))

-- f - g - 1
less-value : (f g : Affine) (p : List ℤ) → value_of (less_by_one f g) p ≡ (value_of f p -ℤ value_of g p) -ℤ pos 1
less-value f g p =
    let a = value_of-sum f (complement g) p in
    let b = value_of-complement g p in
    omega (arith, ints)

-- a test tells which of two values is wanted
test-value : (way : Way) (f g : Affine) (p : List ℤ)
    → value_of (test_of way f g) p ≡ ahead way (value_of f p) (value_of g p)
test-value Later f g p = less-value f g p
test-value Earlier f g p = less-value g f p

-- two tests choose, and what comes behind them
sign_choice : (x y : ℤ) (r : Bool) (a b rest : Leaf) → rest ≡ (if r then a else b)
    → by_sign x a (by_sign y b rest) ≡ (if by_sign x true (by_sign y false r) then a else b)
sign_choice (pos n) y r a b rest h = refl
sign_choice (negsuc n) (pos m) r a b rest h = refl
sign_choice (negsuc n) (negsuc m) r a b rest h = h

-- so does the end
end_value : (e : Bool) (a b : Tree) (p : List ℤ)
    → value (if e then a else b) p ≡ (if e then value a p else value b p)
end_value true a b p = refl
end_value false a b p = refl

-- one loop of the chain
step_value : (same e : Bool) (f g : Affine) (a b rest : Tree) (p : List ℤ) (r : Bool)
    → value rest p ≡ (if r then value a p else value b p)
    → value (if same then branch f a (branch g b rest) else (if e then a else b)) p
    ≡ (if (if same then by_sign (value_of f p) true (by_sign (value_of g p) false r) else e)
    then value a p
    else value b p)
step_value true e f g a b rest p r h =
    sign_choice (value_of f p) (value_of g p) r (value a p) (value b p) (value rest p) h
step_value false e f g a b rest p r h = end_value e a b p

-- the chain chooses by the values of the forms
chain-value : (way : Way) (a b : Tree) (s t : ℕ) (ks ls : List ℕ) (fs gs : List Affine) (p : List ℤ)
    → value (chain way a b (if text way s t then a else b) ks ls fs gs) p
    ≡ (if first_stands way s t ks ls (values_of fs p) (values_of gs p) then value a p else value b p)
chain-value way a b s t [] ls fs gs p = end_value (text way s t) a b p
chain-value way a b s t (k ∷ ks) [] fs gs p = end_value (text way s t) a b p
chain-value way a b s t (k ∷ ks) (l ∷ ls) [] gs p = end_value (text way s t) a b p
chain-value way a b s t (k ∷ ks) (l ∷ ls) (f ∷ fs) [] p = end_value (text way s t) a b p
chain-value way a b s t (k ∷ ks) (l ∷ ls) (f ∷ fs) (g ∷ gs) p =
    let r = first_stands way s t ks ls (values_of fs p) (values_of gs p) in
    step_value (nat_eq k l) (text way s t) (test_of way f g) (test_of way g f) a b
    (chain way a b (if text way s t then a else b) ks ls fs gs) p r (chain-value way a b s t ks ls fs gs p)
    ∙ ap₂ (λ (x y : ℤ). if (if nat_eq k l then by_sign x true (by_sign y false r) else text way s t)
    then value a p
    else value b p) (test-value way f g p) (test-value way g f p)

-- where two leaves meet, the wanted one's values stand
meet-value : (way : Way) (a b : Forms) (p : List ℤ)
    → value (meet way a b) p ≡ chosen way (value (leaf a) p) (value (leaf b) p)
meet-value way a b p =
    chain-value way (leaf a) (leaf b) (statement_of a.source) (statement_of b.source) (loops_of a.source)
    (loops_of b.source) a.forms b.forms p

-- choices go through a branch on the right
choice_right : (way : Way) (z : ℤ) (l m n : Leaf)
    → by_sign z (chosen way l m) (chosen way l n) ≡ chosen way l (by_sign z m n)
choice_right way (pos x) l m n = refl
choice_right way (negsuc x) l m n = refl

-- and on the left
choice_left : (way : Way) (z : ℤ) (l m n : Leaf)
    → by_sign z (chosen way l n) (chosen way m n) ≡ chosen way (by_sign z l m) n
choice_left way (pos x) l m n = refl
choice_left way (negsuc x) l m n = refl

-- one value more behind a point in three parts
longer : (point middle more : List ℤ) (q : ℤ)
    → (point ++ (middle ++ more)) ++ q ∷ [] ≡ point ++ (middle ++ (more ++ q ∷ []))
longer point middle more q =
    append_assoc point (middle ++ more) (q ∷ []) ∙ ap (λ us. point ++ us) (append_assoc middle more (q ∷ []))

-- a tree under a leaf, at a point with the values of both sides' parameters
under-value : (way : Way) (n k : ℕ) (a : Forms) (j : ℕ) (b : Tree) (point middle more : List ℤ)
    → length point ≡ n → length middle ≡ k → length more ≡ j → a.variables ≡ length (point ++ middle)
    → value (under way n k a j b) (point ++ (middle ++ more))
    ≡ chosen way (value (leaf a) (point ++ middle)) (value b (point ++ more))
under-value way n k a j initial point middle more h g l s =
    ap (found a.source) (values-widened j a point middle more s l)
under-value way n k a j (leaf b) point middle more h g l s =
    meet-value way (widened j a) (shifted_leaf n k b) (point ++ (middle ++ more))
    ∙ ap₂ (chosen way) (ap (found a.source) (values-widened j a point middle more s l))
    (ap (found b.source) (values-shifted n k b.forms point middle more h g))
under-value way n k a j (branch f x y) point middle more h g l s =
    rw (
      value-shifted n k f point middle more h g,
      under-value way n k a j x point middle more h g l s,
      under-value way n k a j y point middle more h g l s,
    ) (choice_right way (value_of f (point ++ more)) (value (leaf a) (point ++ middle)) (value x (point ++ more))
    (value y (point ++ more)))
under-value way n k a j (bind f d x) point middle more h g l s =
    let q = floor (value_of f (point ++ more)) d in
    let one_more : length (more ++ q ∷ []) ≡ suc j = omega (arith, length-append more (q ∷ [])) in
    ap (λ (z : ℤ). value (under way n k a (suc j) x) ((point ++ (middle ++ more)) ++ floor z d ∷ []))
    (value-shifted n k f point middle more h g)
    ∙ ap (value (under way n k a (suc j) x)) (longer point middle more q)
    ∙ under-value way n k a (suc j) x point middle (more ++ q ∷ []) h g one_more s
    ∙ ap (λ us. chosen way (value (leaf a) (point ++ middle)) (value x us)) (sym (append_assoc point more (q ∷ [])))

-- a tree under the initial value, at such a point
moved-value : (n k : ℕ) (b : Tree) (point middle more : List ℤ) → length point ≡ n → length middle ≡ k
    → value (moved n k b) (point ++ (middle ++ more)) ≡ value b (point ++ more)
moved-value n k initial point middle more h g = refl
moved-value n k (leaf b) point middle more h g =
    ap (found b.source) (values-shifted n k b.forms point middle more h g)
moved-value n k (branch f x y) point middle more h g =
    rw (
      value-shifted n k f point middle more h g,
      moved-value n k x point middle more h g,
      moved-value n k y point middle more h g,
    ) refl
moved-value n k (bind f d x) point middle more h g =
    let q = floor (value_of f (point ++ more)) d in
    ap (λ (z : ℤ). value (moved n k x) ((point ++ (middle ++ more)) ++ floor z d ∷ []))
    (value-shifted n k f point middle more h g)
    ∙ ap (value (moved n k x)) (longer point middle more q)
    ∙ moved-value n k x point middle (more ++ q ∷ []) h g
    ∙ ap (value x) (sym (append_assoc point more (q ∷ [])))

-- the join at a point with the values of the parameters that are bound so far
join_from-value : (way : Way) (n k : ℕ) (a b : Tree) (point middle : List ℤ) → length point ≡ n
    → length middle ≡ k → Speaks (length (point ++ middle)) a
    → value (join_from way n k a b) (point ++ middle) ≡ chosen way (value a (point ++ middle)) (value b point)
join_from-value way n k initial b point middle h g s =
    ap (λ us. value (moved n k b) (point ++ us)) (sym (append-nil middle))
    ∙ moved-value n k b point middle [] h g ∙ ap (value b) (append-nil point)
join_from-value way n k (leaf a) b point middle h g s =
    ap (λ us. value (under way n k a 0 b) (point ++ us)) (sym (append-nil middle))
    ∙ under-value way n k a 0 b point middle [] h g refl s.0
    ∙ ap (λ us. chosen way (value (leaf a) (point ++ middle)) (value b us)) (append-nil point)
join_from-value way n k (branch f x y) b point middle h g s =
    rw (join_from-value way n k x b point middle h g s.1, join_from-value way n k y b point middle h g s.2)
    (choice_left way (value_of f (point ++ middle)) (value x (point ++ middle)) (value y (point ++ middle))
    (value b point))
join_from-value way n k (bind f d x) b point middle h g s =
    let q = floor (value_of f (point ++ middle)) d in
    let e = append_assoc point middle (q ∷ []) in
    let more : length (point ++ middle) + 1 ≡ length (point ++ (middle ++ q ∷ [])) =
    sym (length-append (point ++ middle) (q ∷ [])) ∙ ap length e in
    let one_more : length (middle ++ q ∷ []) ≡ suc k = omega (arith, length-append middle (q ∷ [])) in
    ap (value (join_from way n (suc k) x b)) e
    ∙ join_from-value way n (suc k) x b point (middle ++ q ∷ []) h one_more (subst (λ m. Speaks m x) more s.2)
    ∙ ap (λ us. chosen way (value x us) (value b point)) (sym e)

-- at every point the join answers the wanted one of the two answers
pub join-value : (way : Way) (n : ℕ) (a b : Tree) (point : List ℤ) → length point ≡ n → Speaks n a
    → value (join way n a b) point ≡ chosen way (value a point) (value b point)
join-value way n a b point h s =
    ap (value (join way n a b)) (sym (append-nil point))
    ∙ join_from-value way n 0 a b point [] h refl
    (subst (λ m. Speaks m a) (sym h ∙ ap length (sym (append-nil point))) s)
    ∙ ap (λ us. chosen way (value a us) (value b point)) (append-nil point)
