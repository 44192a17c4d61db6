-- The join made node by node on a stack of trees is the join's tree; the numbers of binds that it goes by.
use Rattle.quast_joins.proofs.Common.{◌≡◌, ℕ, suc, ◌+◌, ℤ, List, [], ◌∷◌, ◌++◌, map, refl, sym, ap, ap₂, subst, ◌∙◌}
use Rattle.quast_joins.proofs.Common.{arith, Affine, Forms, Tree, initial, leaf, branch, bind, count, Speaks, written}
use Rattle.quast_joins.proofs.Common.{branched, shifted_form, under, moved, join_from, LeavesWithin, Placed_node, at}
use Rattle.quast_joins.proofs.Common.{paired, pairs, Depths, depths_of, from_last, depths, steps, under_step}
use Rattle.quast_joins.proofs.Common.{moved_step, join_step, Enough, AllFit}
use Rattle.whole_numbers.proofs.Common.{map-append}
use Rattle.std.proofs.lemmas.List.{append_assoc}
use Rattle.quast_trees.specs.Postfix.{bound}
use Rattle.quast_trees.specs.declared.node.Node.{Node}
use Rattle.quast_joins.specs.Steps.{depth_step}
use Rattle.quast_joins.specs.declared.way.Way.{Way}
use Rattle.quast_trees.specs.declared.node.Node.TheVariants as node

-- what one node does to the stack
abbrev pub Step : Type 0
Step = List Tree → Placed_node → List Tree

-- steps one after another
steps-append : (step : Step) (stack : List Tree) (xs ys : List Placed_node)
    → steps step stack (xs ++ ys) ≡ steps step (steps step stack xs) ys
steps-append step stack [] ys = refl
steps-append step stack (x ∷ xs) ys = steps-append step (step stack x) xs ys

-- enough stand for both, one after another
enough-append : (step : Step) (stack : List Tree) (xs ys : List Placed_node) → Enough step stack xs
    → Enough step (steps step stack xs) ys → Enough step stack (xs ++ ys)
enough-append step stack [] ys h k = k
enough-append step stack (x ∷ xs) ys h k = (h.0, enough-append step (step stack x) xs ys h.1 k)

-- the nodes put the tree on top, and find what they take
pub record Builds (step : Step) (xs : List Placed_node) (t : Tree) : Type 0 where
  pub run : (stack : List Tree) → steps step stack xs ≡ t ∷ stack
  pub enough : (stack : List Tree) → Enough step stack xs

-- two sides and their branch, by any step that closes branches
branch_builds : (step : Step) (xs ys : List Placed_node) (k m : ℕ) (g f : Affine) (x y : Tree) → Builds step xs x
    → Builds step ys y → ((stack : List Tree) → step stack (at k (node.Branch g m)) ≡ branched f stack)
    → Builds step ((xs ++ ys) ++ at k (node.Branch g m) ∷ []) (branch f x y)
branch_builds step xs ys k m g f x y first second last = record {
  run = λ s. steps-append step s (xs ++ ys) (z ∷ [])
      ∙ (ap (λ (p : List Tree). step p z) (both s) ∙ last (y ∷ x ∷ s));
  enough = λ s. enough-append step s (xs ++ ys) (z ∷ [])
      (enough-append step s xs ys (first.enough s)
      (subst (λ (p : List Tree). Enough step p ys) (sym (first.run s)) (second.enough (x ∷ s))))
      (subst (λ (p : List Tree). Enough step p (z ∷ [])) (sym (both s)) (omega arith, tt));
}
  where
    z : Placed_node
    z = at k (node.Branch g m)

    both : (s : List Tree) → steps step s (xs ++ ys) ≡ y ∷ x ∷ s
    both s = steps-append step s xs ys
        ∙ (ap (λ (p : List Tree). steps step p ys) (first.run s) ∙ second.run (x ∷ s))

-- a body and its bind, by any step that closes binds
bind_builds : (step : Step) (xs : List Placed_node) (k : ℕ) (g f : Affine) (d : ℤ) (x : Tree) → Builds step xs x
    → ((stack : List Tree) → step stack (at k (node.Bind g d)) ≡ bound f d stack)
    → Builds step (xs ++ at k (node.Bind g d) ∷ []) (bind f d x)
bind_builds step xs k g f d x body last =
    let z = at k (node.Bind g d) in
    record {
      run = λ s. steps-append step s xs (z ∷ [])
          ∙ (ap (λ (p : List Tree). step p z) (body.run s) ∙ last (x ∷ s));
      enough = λ s. enough-append step s xs (z ∷ []) (body.enough s)
          (subst (λ (p : List Tree). Enough step p (z ∷ [])) (sym (body.run s)) (omega arith, tt));
    }

-- a tree under a leaf
pub under_builds : (way : Way) (n k : ℕ) (a : Forms) (j : ℕ) (b : Tree)
    → Builds (under_step way n k a) (paired j b) (under way n k a j b)
under_builds way n k a j initial = record { run = λ s. refl; enough = λ s. (tt, tt) }
under_builds way n k a j (leaf b) = record { run = λ s. refl; enough = λ s. (tt, tt) }
under_builds way n k a j (branch f x y) =
    branch_builds (under_step way n k a) (paired j x) (paired j y) j (count y) f (shifted_form n k f)
    (under way n k a j x) (under way n k a j y) (under_builds way n k a j x) (under_builds way n k a j y) (λ s. refl)
under_builds way n k a j (bind f d x) =
    bind_builds (under_step way n k a) (paired (suc j) x) j f (shifted_form n k f) d (under way n k a (suc j) x)
    (under_builds way n k a (suc j) x) (λ s. refl)

-- a tree under the initial value
pub moved_builds : (n k j : ℕ) (b : Tree) → Builds (moved_step n k) (paired j b) (moved n k b)
moved_builds n k j initial = record { run = λ s. refl; enough = λ s. (tt, tt) }
moved_builds n k j (leaf b) = record { run = λ s. refl; enough = λ s. (tt, tt) }
moved_builds n k j (branch f x y) =
    branch_builds (moved_step n k) (paired j x) (paired j y) j (count y) f (shifted_form n k f) (moved n k x)
    (moved n k y) (moved_builds n k j x) (moved_builds n k j y) (λ s. refl)
moved_builds n k j (bind f d x) =
    bind_builds (moved_step n k) (paired (suc j) x) j f (shifted_form n k f) d (moved n k x)
    (moved_builds n k (suc j) x) (λ s. refl)

-- the join where parameters are bound already
pub join_builds : (way : Way) (n k : ℕ) (a b : Tree)
    → Builds (join_step way n (paired 0 b)) (paired k a) (join_from way n k a b)
join_builds way n k initial b = record { run = λ s. (moved_builds n k 0 b).run s; enough = λ s. (tt, tt) }
join_builds way n k (leaf a) b = record { run = λ s. (under_builds way n k a 0 b).run s; enough = λ s. (tt, tt) }
join_builds way n k (branch f x y) b =
    branch_builds (join_step way n (paired 0 b)) (paired k x) (paired k y) k (count y) f f (join_from way n k x b)
    (join_from way n k y b) (join_builds way n k x b) (join_builds way n k y b) (λ s. refl)
join_builds way n k (bind f d x) b =
    bind_builds (join_step way n (paired 0 b)) (paired (suc k) x) k f f d (join_from way n (suc k) x b)
    (join_builds way n (suc k) x b) (λ s. refl)

-- it stands on top
pub join_run : (way : Way) (n k : ℕ) (a b : Tree) (stack : List Tree)
    → steps (join_step way n (paired 0 b)) stack (paired k a) ≡ join_from way n k a b ∷ stack
join_run way n k a b stack = (join_builds way n k a b).run stack

-- the numbers of binds are found from the last node to the first
from_last-append : (xs ys : List Node) (s : Depths) → from_last (xs ++ ys) s ≡ from_last xs (from_last ys s)
from_last-append [] ys s = refl
from_last-append (x ∷ xs) ys s = ap (depth_step x) (from_last-append xs ys s)

-- they are those round the tree's nodes
pub depths_found : (t : Tree) (k : ℕ) (stack found : List ℕ)
    → from_last (written t) (depths_of (k ∷ stack) found) ≡ depths_of stack (depths k t ++ found)
depths_found initial k stack found = refl
depths_found (leaf l) k stack found = refl
depths_found (branch f x y) k stack found =
    from_last-append (written x ++ written y) (node.Branch f (count y) ∷ []) (depths_of (k ∷ stack) found)
    ∙ (from_last-append (written x) (written y) (depths_of (k ∷ k ∷ stack) (k ∷ found))
    ∙ (ap (from_last (written x)) (depths_found y k (k ∷ stack) (k ∷ found))
    ∙ (depths_found x k stack (depths k y ++ k ∷ found)
    ∙ ap (depths_of stack) (sym (append_assoc (depths k x) (depths k y) (k ∷ found))
    ∙ sym (append_assoc (depths k x ++ depths k y) (k ∷ []) found)))))
depths_found (bind f d x) k stack found =
    from_last-append (written x) (node.Bind f d ∷ []) (depths_of (k ∷ stack) found)
    ∙ (depths_found x (suc k) stack (k ∷ found)
    ∙ ap (depths_of stack) (sym (append_assoc (depths (suc k) x) (k ∷ []) found)))

-- a tree's nodes with those numbers are its nodes
pub paired_nodes : (k : ℕ) (t : Tree) → map (λ (x : Placed_node). x.node) (paired k t) ≡ written t
paired_nodes k initial = refl
paired_nodes k (leaf l) = refl
paired_nodes k (branch f x y) =
    map-append (λ (x : Placed_node). x.node) (paired k x ++ paired k y) (at k (node.Branch f (count y)) ∷ [])
    ∙ ap (λ ns. ns ++ node.Branch f (count y) ∷ [])
    (map-append (λ (x : Placed_node). x.node) (paired k x) (paired k y)
    ∙ ap₂ (λ us vs. us ++ vs) (paired_nodes k x) (paired_nodes k y))
paired_nodes k (bind f d x) =
    map-append (λ (x : Placed_node). x.node) (paired (suc k) x) (at k (node.Bind f d) ∷ [])
    ∙ ap (λ ns. ns ++ node.Bind f d ∷ []) (paired_nodes (suc k) x)

-- and the numbers
pub paired_depths : (k : ℕ) (t : Tree) → map (λ (x : Placed_node). x.binds) (paired k t) ≡ depths k t
paired_depths k initial = refl
paired_depths k (leaf l) = refl
paired_depths k (branch f x y) =
    map-append (λ (x : Placed_node). x.binds) (paired k x ++ paired k y) (at k (node.Branch f (count y)) ∷ [])
    ∙ ap (λ ns. ns ++ k ∷ []) (map-append (λ (x : Placed_node). x.binds) (paired k x) (paired k y)
    ∙ ap₂ (λ us vs. us ++ vs) (paired_depths k x) (paired_depths k y))
paired_depths k (bind f d x) =
    map-append (λ (x : Placed_node). x.binds) (paired (suc k) x) (at k (node.Bind f d) ∷ [])
    ∙ ap (λ ns. ns ++ k ∷ []) (paired_depths (suc k) x)

pairs_of : (xs : List Placed_node)
    → pairs (map (λ (x : Placed_node). x.node) xs) (map (λ (x : Placed_node). x.binds) xs) ≡ xs
pairs_of [] = refl
pairs_of (x ∷ xs) = ap (λ ys. x ∷ ys) (pairs_of xs)

-- each node with the number at its place
pub pairs_are : (k : ℕ) (t : Tree) → pairs (written t) (depths k t) ≡ paired k t
pairs_are k t = ap₂ pairs (sym (paired_nodes k t)) (sym (paired_depths k t)) ∙ pairs_of (paired k t)

fit-append : (bound : ℤ) (n : ℕ) (xs ys : List Placed_node) → AllFit bound n xs → AllFit bound n ys
    → AllFit bound n (xs ++ ys)
fit-append bound n [] ys h k = k
fit-append bound n (x ∷ xs) ys h k = (h.0, fit-append bound n xs ys h.1 k)

-- each node of a tree speaks of the variables at its place
pub paired_fit : (bound : ℤ) (n k : ℕ) (t : Tree) → Speaks (n + k) t → LeavesWithin bound t
    → AllFit bound n (paired k t)
paired_fit bound n k initial s w = (tt, tt)
paired_fit bound n k (leaf l) s w = ((s.0, s.1, w), tt)
paired_fit bound n k (branch f x y) s w =
    fit-append bound n (paired k x ++ paired k y) (at k (node.Branch f (count y)) ∷ [])
    (fit-append bound n (paired k x) (paired k y) (paired_fit bound n k x s.1 w.0) (paired_fit bound n k y s.2 w.1))
    (s.0, tt)
paired_fit bound n k (bind f d x) s w =
    let e : (n + k) + 1 ≡ n + suc k = omega arith in
    fit-append bound n (paired (suc k) x) (at k (node.Bind f d) ∷ [])
    (paired_fit bound n (suc k) x (subst (λ m. Speaks m x) e s.2) w) (s.0, tt)
