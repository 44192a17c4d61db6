-- What a part of a quast, as the code shows it, says of the tree.
use Rattle.std.specs.Prelude.{◌≡◌}
use Rattle.quast_trees.specs.Tree.{Tree, initial, leaf, branch, bind}
use Rattle.quast_trees.specs.Place.{subtree}
use Rattle.quast_trees.specs.declared.place.Part.{Part}
use Rattle.quast_trees.specs.declared.place.Part.TheVariants as part

-- a tree's own node, and the places of its sides
abbrev pub Shows : Part → Tree → Type 0
Shows part.Initial t = t ≡ initial
Shows (part.Forms forms) t = t ≡ leaf forms.now
Shows (part.Branch test first second) t = t ≡ branch test.now (subtree first) (subtree second)
Shows (part.Bind form divisor body) t = t ≡ bind form.now divisor (subtree body)
