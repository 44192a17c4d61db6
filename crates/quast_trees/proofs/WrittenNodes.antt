-- The stack machine reads a tree's nodes as the tree.
use Rattle.whole_numbers.proofs.Common.{◌≡◌, List, [], ◌∷◌, ◌++◌, fold, length, refl, ap, length-append, arith}
use Rattle.quast_trees.specs.Tree.{Tree, initial, leaf, branch, bind, count}
use Rattle.quast_trees.specs.Postfix.{written, built, top, read}
use Rattle.quast_trees.specs.declared.node.Node.{Node}
use Rattle.quast_trees.specs.declared.node.Node.TheVariants as node

-- reading nodes and then more is reading them all
pub fold-append : (stack : List Tree) (xs ys : List Node)
    → fold built stack (xs ++ ys) ≡ fold built (fold built stack xs) ys
fold-append stack [] ys = refl
fold-append stack (x ∷ xs) ys = fold-append (built stack x) xs ys

-- reading what a tree writes pushes the tree
pub read-written : (t : Tree) (stack : List Tree) → fold built stack (written t) ≡ t ∷ stack
read-written initial stack = refl
read-written (leaf s) stack = refl
read-written (branch test first second) stack =
    rw (
      fold-append stack (written first ++ written second) (node.Branch test (count second) ∷ []),
      fold-append stack (written first) (written second),
      read-written first stack,
      read-written second
          (first ∷ stack),
    ) refl
read-written (bind form divisor body) stack =
    rw (fold-append stack (written body) (node.Bind form divisor ∷ []), read-written body stack) refl

-- the nodes that a tree writes stand for it
pub read_written : (t : Tree) → read (written t) ≡ t
read_written t = ap top (read-written t [])

-- a tree writes as many nodes as it has
pub length-written : (t : Tree) → length (written t) ≡ count t
length-written initial = refl
length-written (leaf s) = refl
length-written (branch test first second) =
    simp length-append (omega (arith, length-written first, length-written second))
length-written (bind form divisor body) = simp length-append (omega (arith, length-written body))
