-- A source for each leaf of forms: the tree's nodes, and what it speaks of.
use Rattle.whole_numbers.proofs.Common.{◌≡◌, ℕ, ◌+◌, List, [], ◌∷◌, ◌++◌, map, refl, length, map-append}
use Rattle.std.specs.List.{refill}
use Rattle.affine_forms.proofs.Steps.{refill_same}
use Rattle.quast_trees.specs.Source.{Source}
use Rattle.quast_trees.specs.Tree.{Tree, initial, leaf, branch, bind, count, Speaks, named}
use Rattle.quast_trees.specs.Postfix.{written, named_node}
use Rattle.quast_trees.specs.declared.node.Node.{Node}
use Rattle.quast_trees.specs.declared.node.Node.TheVariants as node

pub named-count : (s : Source) (t : Tree) → count (named s t) ≡ count t
named-count s initial = refl
named-count s (leaf l) = refl
named-count s (branch test a b) = rw (named-count s a, named-count s b) refl
named-count s (bind f divisor body) = rw (named-count s body) refl

pub named-speaks : (s : Source) (n : ℕ) (t : Tree) → Speaks n t → Speaks n (named s t)
named-speaks s n initial h = h
named-speaks s n (leaf l) h = h
named-speaks s n (branch test a b) h = (h.0, named-speaks s n a h.1, named-speaks s n b h.2)
named-speaks s n (bind f divisor body) h = (h.0, h.1, named-speaks s (n + 1) body h.2)

-- naming a tree's nodes writes the named tree
pub named-written : (s : Source) (t : Tree) → map (named_node s) (written t) ≡ written (named s t)
named-written s initial = refl
named-written s (leaf l) = refl
named-written s (branch test a b) =
    rw (
      map-append (named_node s) (written a ++ written b) (node.Branch test (count b) ∷ []),
      map-append (named_node s) (written a) (written b),
      named-written s a,
      named-written s b,
      named-count s b,
    ) refl
named-written s (bind f divisor body) =
    rw (map-append (named_node s) (written body) (node.Bind f divisor ∷ []), named-written s body) refl

-- a whole list written over one of its length
pub refilled : (n : ℕ) (xs ws : List Node) → n ≡ length xs → length ws ≡ length xs → refill n xs ws ≡ ws
refilled n xs ws e h = rw e (refill_same xs ws h)
