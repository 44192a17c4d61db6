-- What the trees of a node are.
use Rattle.std.specs.Prelude.{ℕ, Option, List, zero, []}
use Rattle.whole_numbers.specs.Affine.{Affine}
use Rattle.integer_sets.specs.Scanned.{Scanned}
use Rattle.loop_tree.specs.Tree.{Trees}
use Rattle.loop_tree.specs.Fits.{AreSmallTrees}
use Rattle.loop_tree.specs.Marks.{FlatAll, MarksAll}
use Rattle.plain_scan.specs.Scanning.{flags}
use Rattle.plain_scan.specs.steps.Shape.{AreShaped}
use Rattle.plain_scan.specs.steps.Giving.{TurnsOn}
use Rattle.plain_scan.specs.steps.Serving.{ServesOn}
use Rattle.plain_scan.specs.declared.outlined_sets.Outlines.{Outlines}
use Rattle.plain_scan.specs.Hulls.{sets_in}

-- trees of k loops that scan what the sets have behind m outer values at which the context's rows hold; n variables
-- stand round them
pub record IsNode (k m n : ℕ) (mark : Option ℕ) (sets : List Scanned) (context : List Affine)
    (ts : Trees) : Type 0 where
  pub serves : ServesOn k m sets context ts
  pub turns : TurnsOn m sets ts
  pub small : AreSmallTrees k ts
  pub shaped : AreShaped n sets ts
  pub flat : FlatAll ts
  pub marks : MarksAll (flags mark m k) ts

-- the trees scan what the sets of the outlines have, from no outer value on
abbrev pub AreNodesOf : Outlines → Trees → Type 0
AreNodesOf all ts = IsNode all.dimensions zero all.parameters all.parallel (sets_in all.outlines.items) [] ts
