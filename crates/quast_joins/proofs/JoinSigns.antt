-- No quotient that a join binds on the way of a point is negative, where none is that its sides bind.
use Rattle.quast_joins.proofs.Common.{◌≡◌, ℕ, suc, Bool, true, false, ℤ, pos, List, [], ◌∷◌, ◌++◌, length, refl, sym}
use Rattle.quast_joins.proofs.Common.{ap, subst, ◌∙◌, length-append, arith, nat_eq, if◌then◌else◌, ◌≤ℤ◌, ◌<ℤ◌, Affine}
use Rattle.quast_joins.proofs.Common.{value_of, floor, Forms, Tree, initial, leaf, branch, bind, Speaks, statement_of}
use Rattle.quast_joins.proofs.Common.{loops_of, text, shifted_leaf, widened, test_of, chain, meet, under, moved}
use Rattle.quast_joins.proofs.Common.{join_from, join}
use Rattle.std.proofs.lemmas.List.{append_assoc, append-nil}
use Rattle.quast_joins.specs.declared.way.Way.{Way}
use Rattle.quast_trees.specs.Turns.{BindsUp}
use Rattle.quast_joins.proofs.Values.{value-shifted}

-- a quotient more at the end
longer : (point middle more : List ℤ) (q : ℤ)
    → (point ++ (middle ++ more)) ++ q ∷ [] ≡ point ++ (middle ++ (more ++ q ∷ []))
longer point middle more q =
    append_assoc point (middle ++ more) (q ∷ []) ∙ ap (λ us. point ++ us) (append_assoc middle more (q ∷ []))

-- a chain of tests binds nothing
end-up : (e : Bool) (a b : Forms) (p : List ℤ) → BindsUp (if e then leaf a else leaf b) p
end-up true a b p = tt
end-up false a b p = tt

step-up : (same e : Bool) (f g : Affine) (a b : Forms) (rest : Tree) (p : List ℤ) → BindsUp rest p
    → BindsUp (if same then branch f (leaf a) (branch g (leaf b) rest) else (if e then leaf a else leaf b)) p
step-up true e f g a b rest p h = (λ up. tt, λ low. (λ up. tt, λ down. h))
step-up false e f g a b rest p h = end-up e a b p

chain-up : (way : Way) (a b : Forms) (s t : ℕ) (ks ls : List ℕ) (fs gs : List Affine) (p : List ℤ)
    → BindsUp (chain way (leaf a) (leaf b) (if text way s t then leaf a else leaf b) ks ls fs gs) p
chain-up way a b s t [] ls fs gs p = end-up (text way s t) a b p
chain-up way a b s t (k ∷ ks) [] fs gs p = end-up (text way s t) a b p
chain-up way a b s t (k ∷ ks) (l ∷ ls) [] gs p = end-up (text way s t) a b p
chain-up way a b s t (k ∷ ks) (l ∷ ls) (f ∷ fs) [] p = end-up (text way s t) a b p
chain-up way a b s t (k ∷ ks) (l ∷ ls) (f ∷ fs) (g ∷ gs) p =
    step-up (nat_eq k l) (text way s t) (test_of way f g) (test_of way g f) a b
    (chain way (leaf a) (leaf b) (if text way s t then leaf a else leaf b) ks ls fs gs) p
    (chain-up way a b s t ks ls fs gs p)

meet-up : (way : Way) (a b : Forms) (p : List ℤ) → BindsUp (meet way a b) p
meet-up way a b p =
    chain-up way a b (statement_of a.source) (statement_of b.source) (loops_of a.source) (loops_of b.source) a.forms
    b.forms p

under-up : (way : Way) (n k : ℕ) (a : Forms) (j : ℕ) (b : Tree) (point middle more : List ℤ)
    → length point ≡ n → length middle ≡ k → BindsUp b (point ++ more)
    → BindsUp (under way n k a j b) (point ++ (middle ++ more))
under-up way n k a j initial point middle more h g up = tt
under-up way n k a j (leaf b) point middle more h g up =
    meet-up way (widened j a) (shifted_leaf n k b) (point ++ (middle ++ more))
under-up way n k a j (branch f x y) point middle more h g up =
    let e = value-shifted n k f point middle more h g in (
      λ p. under-up way n k a j x point middle more h g (up.0 (subst (λ (z : ℤ). pos 0 ≤ℤ z) e p)),
      λ p. under-up way n k a j y point middle more h g (up.1 (subst (λ (z : ℤ). z <ℤ pos 0) e p)),
    )
under-up way n k a j (bind f d x) point middle more h g up =
    let q = floor (value_of f (point ++ more)) d in
    let e = ap (λ (z : ℤ). floor z d) (value-shifted n k f point middle more h g) in
    let next = under-up way n k a (suc j) x point middle (more ++ q ∷ []) h g
    (subst (λ (us : List ℤ). BindsUp x us) (append_assoc point more (q ∷ [])) up.1) in (
      subst (λ (z : ℤ). pos 0 ≤ℤ z) (sym e) up.0,
      subst (λ (z : ℤ). BindsUp (under way n k a (suc j) x) ((point ++ (middle ++ more)) ++ z ∷ [])) (sym e)
          (subst (λ (us : List ℤ). BindsUp (under way n k a (suc j) x) us) (sym (longer point middle more q)) next),
    )

moved-up : (n k : ℕ) (b : Tree) (point middle more : List ℤ) → length point ≡ n → length middle ≡ k
    → BindsUp b (point ++ more) → BindsUp (moved n k b) (point ++ (middle ++ more))
moved-up n k initial point middle more h g up = tt
moved-up n k (leaf b) point middle more h g up = tt
moved-up n k (branch f x y) point middle more h g up =
    let e = value-shifted n k f point middle more h g in (
      λ p. moved-up n k x point middle more h g (up.0 (subst (λ (z : ℤ). pos 0 ≤ℤ z) e p)),
      λ p. moved-up n k y point middle more h g (up.1 (subst (λ (z : ℤ). z <ℤ pos 0) e p)),
    )
moved-up n k (bind f d x) point middle more h g up =
    let q = floor (value_of f (point ++ more)) d in
    let e = ap (λ (z : ℤ). floor z d) (value-shifted n k f point middle more h g) in
    let next = moved-up n k x point middle (more ++ q ∷ []) h g
    (subst (λ (us : List ℤ). BindsUp x us) (append_assoc point more (q ∷ [])) up.1) in (
      subst (λ (z : ℤ). pos 0 ≤ℤ z) (sym e) up.0,
      subst (λ (z : ℤ). BindsUp (moved n k x) ((point ++ (middle ++ more)) ++ z ∷ [])) (sym e)
          (subst (λ (us : List ℤ). BindsUp (moved n k x) us) (sym (longer point middle more q)) next),
    )

join_from-up : (way : Way) (n k : ℕ) (a b : Tree) (point middle : List ℤ) → length point ≡ n
    → length middle ≡ k → BindsUp a (point ++ middle) → BindsUp b point
    → BindsUp (join_from way n k a b) (point ++ middle)
join_from-up way n k initial b point middle h g first second =
    subst (λ (us : List ℤ). BindsUp (moved n k b) (point ++ us)) (append-nil middle)
    (moved-up n k b point middle [] h g (subst (λ (us : List ℤ). BindsUp b us) (sym (append-nil point)) second))
join_from-up way n k (leaf a) b point middle h g first second =
    subst (λ (us : List ℤ). BindsUp (under way n k a 0 b) (point ++ us)) (append-nil middle)
    (under-up way n k a 0 b point middle [] h g
    (subst (λ (us : List ℤ). BindsUp b us) (sym (append-nil point)) second))
join_from-up way n k (branch f x y) b point middle h g first second = (
  λ p. join_from-up way n k x b point middle h g (first.0 p) second,
  λ p. join_from-up way n k y b point middle h g (first.1 p) second,
)
join_from-up way n k (bind f d x) b point middle h g first second =
    let q = floor (value_of f (point ++ middle)) d in
    let e = append_assoc point middle (q ∷ []) in
    let one_more : length (middle ++ q ∷ []) ≡ suc k = let a = length-append middle (q ∷ []) in omega arith in (
      first.0,
      subst (λ (us : List ℤ). BindsUp (join_from way n (suc k) x b) us) (sym e)
          (join_from-up way n (suc k) x b point (middle ++ q ∷ []) h one_more
          (subst (λ (us : List ℤ). BindsUp x us) e first.1) second),
    )

pub join-up : (way : Way) (n : ℕ) (a b : Tree) (point : List ℤ) → length point ≡ n → Speaks n a → BindsUp a point
    → BindsUp b point → BindsUp (join way n a b) point
join-up way n a b point h s first second =
    subst (λ (us : List ℤ). BindsUp (join way n a b) us) (append-nil point)
    (join_from-up way n 0 a b point [] h refl
    (subst (λ (us : List ℤ). BindsUp a us) (sym (append-nil point)) first) second)
