-- What a quast answers at a point.
use Rattle.std.specs.Prelude.{ℤ, List, Option}
use Rattle.whole_numbers.specs.Affine.{Affine, values_of}
use Rattle.quast_trees.specs.Source.{Source, source_held}
use Rattle.quast_trees.specs.declared.leaf.Leaf.{Leaf as Answer}
use Rattle.quast_trees.specs.declared.leaf.Leaf.TheVariants as answer

-- what a quast answers at a point
pub data Leaf : Type 0 where
  -- the initial value
  initial : Leaf
  -- the values of a leaf's forms, and what it is an instance of, where that is known
  found : Option Source → List ℤ → Leaf

-- the leaf that a call answers
abbrev pub leaf_of : Answer → Leaf
leaf_of answer.Initial = initial
leaf_of (answer.Found source values) = found (source_held source) values.items

-- the leaf with other values: those of the forms at its own
abbrev pub mapped_leaf : List Affine → Leaf → Leaf
mapped_leaf forms initial = initial
mapped_leaf forms (found source values) = found source (values_of forms values)
