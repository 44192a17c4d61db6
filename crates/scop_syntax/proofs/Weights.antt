-- The weight of a tree, by which recursions over items fall, and the items of a list one by one.
use Rattle.whole_numbers.proofs.Common.{◌≡◌, ℕ, zero, suc, ◌+◌, ◌≤◌, ◌<◌, List, [], ◌∷◌, length, drop, get_or, ap, sym}
use Rattle.whole_numbers.proofs.Common.{subst, ◌∙◌, refl, arith, add-one, drop-cons}
use Rattle.scop_syntax.specs.Tree.{Tree, loop, guard, statement, Trees, none, more}
use Rattle.scop_syntax.specs.declared.tree.Item.{Item}
use Rattle.scop_syntax.specs.View.{tree_of, items_of}

-- how much of a tree a call goes over
abbrev mutual
  pub weight : Tree → ℕ
  weight (loop head body) = weight_all body + 4
  weight (guard tests body) = weight_all body + 4
  weight (statement s) = 1

  pub weight_all : Trees → ℕ
  weight_all none = 0
  weight_all (more t ts) = weight t + weight_all ts

weight_member : (items : List Item) (i : ℕ) (d : Item) → i < length items
    → weight (tree_of (get_or items i d)) ≤ weight_all (items_of items)
weight_member [] i d h = absurd (omega arith)
weight_member (x ∷ xs) zero d h = omega arith
weight_member (x ∷ xs) (suc i) d h = let below = weight_member xs i d (omega arith) in omega arith

-- an item weighs no more than all
pub item_weight : (items : List Item) (i : ℕ) (item : Item) → item ≡ get_or items i item → i < length items
    → weight (tree_of item) ≤ weight_all (items_of items)
item_weight items i item found h =
    subst (λ (x : Item). weight (tree_of x) ≤ weight_all (items_of items)) (sym found) (weight_member items i item h)

-- the items from i on begin with the one at i
pub item_here : (items : List Item) (i : ℕ) (item : Item) → item ≡ get_or items i item → i < length items
    → items_of (drop i items) ≡ more (tree_of item) (items_of (drop (i + 1) items))
item_here items i item found h =
    let rest = items_of (drop (i + 1) items) in
    let first : items_of (drop i items)
    ≡ more (tree_of (get_or items i item)) rest = rw (add-one, drop-cons items i item) refl in
    first ∙ ap (λ (x : Item). more (tree_of x) rest) (sym found)
