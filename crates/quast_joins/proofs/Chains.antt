-- The tests between two leaves, one common loop behind another.
use Rattle.quast_joins.proofs.Common.{◌≡◌, ℕ, zero, suc, ◌+◌, ◌<◌, ◌≤◌, Bool, true, false, ℤ, List, [], ◌∷◌, length}
use Rattle.quast_joins.proofs.Common.{drop, get_or, refl, sym, ap, ap₂, subst, ◌∙◌, arith, nat_eq, if◌then◌else◌}
use Rattle.quast_joins.proofs.Common.{Affine, Forms, Tree, leaf, branch, branched, test_of, chain, last_leaf, tested}
use Rattle.quast_joins.proofs.Common.{leaf_limit, FitsAt, IsFormWithin, AreFormsWithin, loops_of}
use Rattle.quast_joins.specs.declared.way.Way.{Way}
use Rattle.quast_trees.specs.declared.node.Node.TheVariants as node

-- behind the last common loop stands the end
chain_end : (way : Way) (a b end : Tree) (ks ls : List ℕ) (fs gs : List Affine) (at : ℕ) → tested ks ls fs gs ≤ at
    → at ≤ tested ks ls fs gs → chain way a b end (drop at ks) (drop at ls) (drop at fs) (drop at gs) ≡ end
chain_end way a b end [] ls fs gs zero h k = refl
chain_end way a b end (i ∷ ks) [] fs gs zero h k = refl
chain_end way a b end (i ∷ ks) (l ∷ ls) [] gs zero h k = refl
chain_end way a b end (i ∷ ks) (l ∷ ls) (f ∷ fs) [] zero h k = refl
chain_end way a b end (i ∷ ks) (l ∷ ls) (f ∷ fs) (g ∷ gs) zero h k = by_same (nat_eq i l) h
  where
    by_same : (c : Bool) → (if c then suc (tested ks ls fs gs) else 0) ≤ 0
        → (if c
        then branch (test_of way f g) a (branch (test_of way g f) b (chain way a b end ks ls fs gs))
        else end) ≡ end
    by_same true h = absurd (omega arith)
    by_same false h = refl
chain_end way a b end [] ls fs gs (suc at) h k = absurd (omega arith)
chain_end way a b end (i ∷ ks) [] fs gs (suc at) h k = absurd (omega arith)
chain_end way a b end (i ∷ ks) (l ∷ ls) [] gs (suc at) h k = absurd (omega arith)
chain_end way a b end (i ∷ ks) (l ∷ ls) (f ∷ fs) [] (suc at) h k = absurd (omega arith)
chain_end way a b end (i ∷ ks) (l ∷ ls) (f ∷ fs) (g ∷ gs) (suc at) h k =
    by_same (λ p q. chain_end way a b end ks ls fs gs at p q) (nat_eq i l) h k
  where
    Ends : Type 0
    Ends = chain way a b end (drop at ks) (drop at ls) (drop at fs) (drop at gs) ≡ end

    by_same : (tested ks ls fs gs ≤ at → at ≤ tested ks ls fs gs → Ends) → (c : Bool)
        → (if c then suc (tested ks ls fs gs) else 0) ≤ suc at
        → suc at ≤ (if c then suc (tested ks ls fs gs) else 0) → Ends
    by_same ih true h k = ih (omega arith) (omega arith)
    by_same ih false h k = absurd (omega arith)

-- at a common loop stand its two tests
chain_more : (way : Way) (a b end : Tree) (ks ls : List ℕ) (fs gs : List Affine) (at : ℕ) (d e : Affine)
    → at < tested ks ls fs gs
    → chain way a b end (drop at ks) (drop at ls) (drop at fs) (drop at gs)
    ≡ branch (test_of way (get_or fs at d) (get_or gs at e)) a
    (branch (test_of way (get_or gs at e) (get_or fs at d)) b
    (chain way a b end (drop (suc at) ks) (drop (suc at) ls) (drop (suc at) fs) (drop (suc at) gs)))
chain_more way a b end [] ls fs gs at d e h = absurd (omega arith)
chain_more way a b end (i ∷ ks) [] fs gs at d e h = absurd (omega arith)
chain_more way a b end (i ∷ ks) (l ∷ ls) [] gs at d e h = absurd (omega arith)
chain_more way a b end (i ∷ ks) (l ∷ ls) (f ∷ fs) [] at d e h = absurd (omega arith)
chain_more way a b end (i ∷ ks) (l ∷ ls) (f ∷ fs) (g ∷ gs) zero d e h = by_same (nat_eq i l) h
  where
    here : Tree
    here = branch (test_of way f g) a (branch (test_of way g f) b (chain way a b end ks ls fs gs))

    by_same : (c : Bool) → 0 < (if c then suc (tested ks ls fs gs) else 0) → (if c then here else end) ≡ here
    by_same true h = refl
    by_same false h = absurd (omega arith)
chain_more way a b end (i ∷ ks) (l ∷ ls) (f ∷ fs) (g ∷ gs) (suc at) d e h =
    by_same (λ p. chain_more way a b end ks ls fs gs at d e p) (nat_eq i l) h
  where
    Goes_on : Type 0
    Goes_on =
        chain way a b end (drop at ks) (drop at ls) (drop at fs) (drop at gs)
        ≡ branch (test_of way (get_or fs at d) (get_or gs at e)) a
        (branch (test_of way (get_or gs at e) (get_or fs at d)) b
        (chain way a b end (drop (suc at) ks) (drop (suc at) ls) (drop (suc at) fs) (drop (suc at) gs)))

    by_same : (at < tested ks ls fs gs → Goes_on) → (c : Bool) → suc at < (if c then suc (tested ks ls fs gs) else 0)
        → Goes_on
    by_same ih true h = ih (omega arith)
    by_same ih false h = absurd (omega arith)

-- a common loop has a form on both sides
tested_forms : (ks ls : List ℕ) (fs gs : List Affine)
    → (tested ks ls fs gs ≤ length fs) × (tested ks ls fs gs ≤ length gs)
tested_forms [] ls fs gs = (omega arith, omega arith)
tested_forms (i ∷ ks) [] fs gs = (omega arith, omega arith)
tested_forms (i ∷ ks) (l ∷ ls) [] gs = (omega arith, omega arith)
tested_forms (i ∷ ks) (l ∷ ls) (f ∷ fs) [] = (omega arith, omega arith)
tested_forms (i ∷ ks) (l ∷ ls) (f ∷ fs) (g ∷ gs) = by_same (tested_forms ks ls fs gs) (nat_eq i l)
  where
    Have : ℕ → ℕ → ℕ → Type 0
    Have n m k = (k ≤ n) × (k ≤ m)

    by_same : Have (length fs) (length gs) (tested ks ls fs gs) → (c : Bool)
        → Have (suc (length fs)) (suc (length gs)) (if c then suc (tested ks ls fs gs) else 0)
    by_same rest true = let a = rest.0 in let b = rest.1 in (omega arith, omega arith)
    by_same rest false = (omega arith, omega arith)

-- the form at a place is as small as all of them
form_within : (bound : ℤ) (fs : List Affine) (at : ℕ) (d : Affine) → at < length fs → AreFormsWithin bound fs
    → IsFormWithin bound (get_or fs at d)
form_within bound [] at d h w = absurd (omega arith)
form_within bound (f ∷ fs) zero d h w = w.0
form_within bound (f ∷ fs) (suc at) d h w = form_within bound fs at d (omega arith) w.1

-- the chain of two leaves from a common loop on
abbrev pub chain_from : Way → Forms → Forms → ℕ → Tree
chain_from way a b at =
    chain way (leaf a) (leaf b) (last_leaf way a b) (drop at (loops_of a.source)) (drop at (loops_of b.source))
    (drop at a.forms) (drop at b.forms)

-- how many common loops two leaves have, of those with a form on both sides
abbrev pub tested_of : Forms → Forms → ℕ
tested_of a b = tested (loops_of a.source) (loops_of b.source) a.forms b.forms

-- behind the last of them stands the leaf at the end
pub chain_last : (way : Way) (a b : Forms) (at common : ℕ) → common ≡ tested_of a b → common ≤ at → at ≤ common
    → chain_from way a b at ≡ last_leaf way a b
chain_last way a b at common e past inside =
    chain_end way (leaf a) (leaf b) (last_leaf way a b) (loops_of a.source) (loops_of b.source) a.forms b.forms at
    (omega arith) (omega arith)

-- both have a form for a common loop
pub forms_at : (a b : Forms) (at common : ℕ) → common ≡ tested_of a b → at < common
    → (at < length a.forms) × (at < length b.forms)
forms_at a b at common e h =
    let few = tested_forms (loops_of a.source) (loops_of b.source) a.forms b.forms in
    let first = few.0 in
    let second = few.1 in
    (omega arith, omega arith)

-- which is as small as the leaf's forms are, over the leaf's variables
pub form_fits : (l : Forms) (at : ℕ) (x : Affine) → FitsAt leaf_limit l.variables (node.Forms l) 0 → at < length l.forms
    → x ≡ get_or l.forms at x → IsFormWithin leaf_limit x × (length x.coefficients ≡ l.variables)
form_fits l at x fits inside is = (
  subst (IsFormWithin leaf_limit) (sym is) (form_within leaf_limit l.forms at x inside fits.2),
  ap (λ (f : Affine). length f.coefficients) is ∙ (fits.1 at x inside ∙ omega arith),
)

-- two leaves, what comes behind them, and their two tests
pub chain_put : (way : Way) (a b : Forms) (at common : ℕ) (x y : Affine) (old leaves rest all : List Tree)
    → common ≡ tested_of a b → at < common → x ≡ get_or a.forms at x → y ≡ get_or b.forms at y
    → leaves ≡ leaf b ∷ leaf a ∷ old → rest ≡ chain_from way a b (at + 1) ∷ leaves
    → all ≡ branched (test_of way x y) (branched (test_of way y x) rest) → all ≡ chain_from way a b at ∷ old
chain_put way a b at common x y old leaves rest all e h p q r s t =
    let end = last_leaf way a b in
    let one : suc at ≡ at + 1 = omega arith in
    let more = chain_more way (leaf a) (leaf b) end (loops_of a.source) (loops_of b.source) a.forms b.forms at x y
    (omega arith) in
    let here = ap₂ (λ (f g : Affine). branch (test_of way f g) (leaf a) (branch (test_of way g f) (leaf b)
    (chain_from way a b (suc at)))) (sym p) (sym q) in
    let there = ap (λ (i : ℕ). branch (test_of way x y) (leaf a) (branch (test_of way y x) (leaf b)
    (chain_from way a b i))) one in
    t ∙ ap (λ (z : List Tree). branched (test_of way x y) (branched (test_of way y x) z))
    (s ∙ ap (λ (z : List Tree). chain_from way a b (at + 1) ∷ z) r)
    ∙ ap (λ (z : Tree). z ∷ old) (sym (more ∙ (here ∙ there)))
