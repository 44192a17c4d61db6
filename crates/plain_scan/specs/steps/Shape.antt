-- Flat and marked pieces; the numbers, the forms and the instances of trees.
use Rattle.std.specs.Prelude.{◌≡◌, ◌^◌, ℕ, Bool, List, [], ◌∷◌, ⊤}
use Rattle.integer_sets.specs.Scanned.{Scanned}
use Rattle.loop_tree.specs.Shape.{TreesAreOver, TreesAreUpTo}
use Rattle.loop_tree.specs.Tree.{Trees}
use Rattle.plain_scan.specs.Scanning.{AreOfSets}
use Rattle.plain_scan.specs.steps.Pieces.{Piece}
use Rattle.loop_tree.specs.Marks.{FlatAll, MarksAll}

-- each body is flat
abbrev pub HaveFlatBodies : List Piece → Type 0
HaveFlatBodies [] = ⊤
HaveFlatBodies (p ∷ ps) = FlatAll p.body × HaveFlatBodies ps

-- each piece is parallel or not, as told, and its body is marked
abbrev pub AreMarked : Bool → List Bool → List Piece → Type 0
AreMarked b bs [] = ⊤
AreMarked b bs (p ∷ ps) = (p.parallel ≡ b) × MarksAll bs p.body × AreMarked b bs ps

-- trees with n variables round them, of numbers within 2^40, whose instances are of the sets
pub record AreShaped (n : ℕ) (sets : List Scanned) (ts : Trees) : Type 0 where
  pub small : TreesAreUpTo (2 ^ 40) ts
  pub over : TreesAreOver n ts
  pub instances : AreOfSets sets ts
