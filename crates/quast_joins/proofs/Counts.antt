-- How many nodes a join has, by its two trees and by their nodes, and as the code counts them.
use Rattle.quast_joins.proofs.Common.{◌≡◌, ℕ, zero, suc, ◌+◌, ◌<◌, ◌≤◌, Bool, true, false, List, [], ◌∷◌, ◌++◌, length}
use Rattle.quast_joins.proofs.Common.{map, drop, get_or, min, refl, ap, ap₂, ◌∙◌, arith, fold, nat_eq, pos, sum_by}
use Rattle.quast_joins.proofs.Common.{if◌then◌else◌, length-map, Affine, form_of, Forms, Tree, initial, leaf, branch}
use Rattle.quast_joins.proofs.Common.{bind, count, written, statement_of, loops_of, text, shifted_form, shifted_leaf}
use Rattle.quast_joins.proofs.Common.{widened, test_of, last_leaf, chain, meet, under, moved, join_from, join, tested}
use Rattle.quast_joins.proofs.Common.{under_node, join_node, capped, join_count}
use Rattle.whole_numbers.proofs.Common.{◌*◌, drop-cons, eq-eqb}
use Rattle.std.proofs.lemmas.List.Sums.{sum_by-append, sum_by-cons}
use Rattle.quast_trees.proofs.WrittenNodes.{length-written}
use Rattle.quast_joins.specs.declared.way.Way.{Way}
use Rattle.quast_joins.specs.Counts.{meet_count, under_count, HasForms}
use Rattle.quast_joins.proofs.JoinedLeaves.{join_leaves}
use Rattle.quast_trees.specs.declared.node.Node.TheVariants as node

-- a choice of two leaves is one node
leaf_count : (b : Bool) (s t : Forms) → count (if b then leaf s else leaf t) ≡ 1
leaf_count true s t = refl
leaf_count false s t = refl

-- one loop of the chain
step_count : (same : Bool) (f g : Affine) (a b : Forms) (rest end : Tree) (c : ℕ) → count rest ≡ 4 * c + 1
    → count end ≡ 1
    → count (if same then branch f (leaf a) (branch g (leaf b) rest) else end) ≡ 4 * (if same then suc c else 0) + 1
step_count true f g a b rest end c h e = omega arith
step_count false f g a b rest end c h e = e

-- the tests over the common loops
chain-count : (way : Way) (a b : Forms) (end : Tree) (ks ls : List ℕ) (fs gs : List Affine) → count end ≡ 1
    → count (chain way (leaf a) (leaf b) end ks ls fs gs) ≡ 4 * tested ks ls fs gs + 1
chain-count way a b end [] ls fs gs e = e
chain-count way a b end (i ∷ ks) [] fs gs e = e
chain-count way a b end (i ∷ ks) (l ∷ ls) [] gs e = e
chain-count way a b end (i ∷ ks) (l ∷ ls) (f ∷ fs) [] e = e
chain-count way a b end (i ∷ ks) (l ∷ ls) (f ∷ fs) (g ∷ gs) e =
    step_count (nat_eq i l) (test_of way f g) (test_of way g f) a b (chain way (leaf a) (leaf b) end ks ls fs gs) end
    (tested ks ls fs gs) (chain-count way a b end ks ls fs gs e) e

-- the number of forms alone counts
tested-map : (p q : Affine → Affine) (ks ls : List ℕ) (fs gs : List Affine)
    → tested ks ls (map p fs) (map q gs) ≡ tested ks ls fs gs
tested-map p q [] ls fs gs = refl
tested-map p q (i ∷ ks) [] fs gs = refl
tested-map p q (i ∷ ks) (l ∷ ls) [] gs = refl
tested-map p q (i ∷ ks) (l ∷ ls) (f ∷ fs) [] = refl
tested-map p q (i ∷ ks) (l ∷ ls) (f ∷ fs) (g ∷ gs) =
    ap (λ (n : ℕ). if nat_eq i l then suc n else 0) (tested-map p q ks ls fs gs)

-- where two leaves meet
meet-count : (way : Way) (a b : Forms) → count (meet way a b) ≡ meet_count a b
meet-count way a b =
    chain-count way a b (last_leaf way a b) (loops_of a.source) (loops_of b.source) a.forms b.forms
    (leaf_count (text way (statement_of a.source) (statement_of b.source)) a b)

-- a tree under a leaf
under-count : (way : Way) (n k : ℕ) (a : Forms) (j : ℕ) (b : Tree) → count (under way n k a j b) ≡ under_count a b
under-count way n k a j initial = refl
under-count way n k a j (leaf b) =
    meet-count way (widened j a) (shifted_leaf n k b)
    ∙ ap (λ (t : ℕ). 4 * t + 1) (tested-map (shifted_form a.variables j) (shifted_form n k) (loops_of a.source)
    (loops_of b.source) a.forms b.forms)
under-count way n k a j (branch f x y) =
    ap₂ (λ (p q : ℕ). (p + q) + 1) (under-count way n k a j x) (under-count way n k a j y)
under-count way n k a j (bind f d x) = ap (λ (p : ℕ). p + 1) (under-count way n k a (suc j) x)

-- a tree under the initial value
moved-count : (n k : ℕ) (b : Tree) → count (moved n k b) ≡ count b
moved-count n k initial = refl
moved-count n k (leaf b) = refl
moved-count n k (branch f x y) = ap₂ (λ (p q : ℕ). (p + q) + 1) (moved-count n k x) (moved-count n k y)
moved-count n k (bind f d x) = ap (λ (p : ℕ). p + 1) (moved-count n k x)

-- the join where parameters are bound already
join_from-count : (way : Way) (n k : ℕ) (a b : Tree) → count (join_from way n k a b) ≡ join_count a b
join_from-count way n k initial b = moved-count n k b
join_from-count way n k (leaf a) b = under-count way n k a 0 b
join_from-count way n k (branch f x y) b =
    ap₂ (λ (p q : ℕ). (p + q) + 1) (join_from-count way n k x b) (join_from-count way n k y b)
join_from-count way n k (bind f d x) b = ap (λ (p : ℕ). p + 1) (join_from-count way n (suc k) x b)

-- the two trees alone tell how many nodes the join has
pub join-count : (way : Way) (n : ℕ) (a b : Tree) → count (join way n a b) ≡ join_count a b
join-count way n a b = join_from-count way n 0 a b

-- the join keeps a form for each loop
pub join-forms : (way : Way) (n : ℕ) (a b : Tree) → HasForms a → HasForms b → HasForms (join way n a b)
join-forms way n a b h s =
    join_leaves (λ l. length l.forms ≡ length (loops_of l.source))
    (λ n k l is. length-map l.forms (shifted_form n k) ∙ is) way n a b h s

-- a tree under a leaf, counted over the tree's nodes
under_added : (a : Forms) (b : Tree) → under_count a b ≡ sum_by (under_node a) (written b)
under_added m initial = refl
under_added m (leaf b) = omega arith
under_added m (branch f x y) =
    let a = sum_by-append (under_node m) (written x ++ written y) (node.Branch f (count y) ∷ []) in
    let c = sum_by-append (under_node m) (written x) (written y) in
    let p = under_added m x in
    let q = under_added m y in
    omega arith
under_added m (bind f d x) =
    let a = sum_by-append (under_node m) (written x) (node.Bind f d ∷ []) in
    let p = under_added m x in
    omega arith

-- the join, counted over the first tree's nodes
pub join_added : (a b : Tree) → join_count a b ≡ sum_by (join_node (written b)) (written a)
join_added initial b = let e = length-written b in omega arith
join_added (leaf a) b = let e = under_added a b in omega arith
join_added (branch f x y) b =
    let a = sum_by-append (join_node (written b)) (written x ++ written y) (node.Branch f (count y) ∷ []) in
    let c = sum_by-append (join_node (written b)) (written x) (written y) in
    let p = join_added x b in
    let q = join_added y b in
    omega arith
join_added (bind f d x) b =
    let a = sum_by-append (join_node (written b)) (written x) (node.Bind f d ∷ []) in
    let p = join_added x b in
    omega arith

-- numbers that saturate add up to the sum that saturates
pub capped_sum : (most x y : ℕ) → capped most (capped most x + capped most y) ≡ capped most (x + y)
capped_sum most x y = omega arith

-- numbers added up one by one, each sum saturated: from any number on, and from 0
counted_from : {A : Type 0} (f : A → ℕ) (most n : ℕ) (xs : List A) → n ≤ most
    → fold (λ s x. capped most (s + capped most (f x))) n xs ≡ capped most (n + sum_by f xs)
counted_from f most n [] few = omega arith
counted_from f most n (x ∷ xs) few =
    let e = sum_by-cons f x xs in
    counted_from f most (capped most (n + capped most (f x))) xs (omega arith) ∙ omega arith

pub counted : {A : Type 0} (f : A → ℕ) (most : ℕ) (xs : List A)
    → fold (λ s x. capped most (s + capped most (f x))) 0 xs ≡ capped most (sum_by f xs)
counted f most xs = counted_from f most 0 xs (omega arith) ∙ omega arith

-- how many loops have a number and a form on both sides
abbrev pub both_sides : List ℕ → List ℕ → List Affine → List Affine → ℕ
both_sides ks ls fs gs = min (min (length ks) (length ls)) (min (length fs) (length gs))

-- one more loop in common
pub tested_more : (ks ls : List ℕ) (fs gs : List Affine) (at d e : ℕ) → at < both_sides ks ls fs gs
    → get_or ks at d ≡ get_or ls at e
    → tested (drop at ks) (drop at ls) (drop at fs) (drop at gs)
    ≡ suc (tested (drop (suc at) ks) (drop (suc at) ls) (drop (suc at) fs) (drop (suc at) gs))
tested_more ks ls fs gs at d e h same =
    let z = form_of [] (pos 0) in
    rw (
      drop-cons ks at d (omega arith),
      drop-cons ls at e (omega arith),
      drop-cons fs at z (omega arith),
      drop-cons gs at z (omega arith),
      eq-eqb (get_or ks at d) (get_or ls at e) same,
    ) refl

no_second : (ks : List ℕ) (fs gs : List Affine) → tested ks [] fs gs ≡ 0
no_second [] fs gs = refl
no_second (k ∷ ks) fs gs = refl

no_third : (ks ls : List ℕ) (gs : List Affine) → tested ks ls [] gs ≡ 0
no_third [] ls gs = refl
no_third (k ∷ ks) [] gs = refl
no_third (k ∷ ks) (l ∷ ls) gs = refl

no_fourth : (ks ls : List ℕ) (fs : List Affine) → tested ks ls fs [] ≡ 0
no_fourth [] ls fs = refl
no_fourth (k ∷ ks) [] fs = refl
no_fourth (k ∷ ks) (l ∷ ls) [] = refl
no_fourth (k ∷ ks) (l ∷ ls) (f ∷ fs) = refl

-- past the end of one of the lists there is none
pub tested_past : (ks ls : List ℕ) (fs gs : List Affine) (at : ℕ) → both_sides ks ls fs gs ≤ at
    → tested (drop at ks) (drop at ls) (drop at fs) (drop at gs) ≡ 0
tested_past [] ls fs gs zero h = refl
tested_past [] ls fs gs (suc at) h = refl
tested_past (k ∷ ks) [] fs gs zero h = refl
tested_past (k ∷ ks) [] fs gs (suc at) h = no_second (drop at ks) (drop (suc at) fs) (drop (suc at) gs)
tested_past (k ∷ ks) (l ∷ ls) [] gs zero h = refl
tested_past (k ∷ ks) (l ∷ ls) [] gs (suc at) h = no_third (drop at ks) (drop at ls) (drop (suc at) gs)
tested_past (k ∷ ks) (l ∷ ls) (f ∷ fs) [] zero h = refl
tested_past (k ∷ ks) (l ∷ ls) (f ∷ fs) [] (suc at) h = no_fourth (drop at ks) (drop at ls) (drop at fs)
tested_past (k ∷ ks) (l ∷ ls) (f ∷ fs) (g ∷ gs) zero h = absurd (omega arith)
tested_past (k ∷ ks) (l ∷ ls) (f ∷ fs) (g ∷ gs) (suc at) h = tested_past ks ls fs gs at (omega arith)
