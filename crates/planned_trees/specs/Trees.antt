-- Loop trees of a plan for all parameters at once.
use Rattle.std.specs.Prelude.{◌≡◌, ℕ, ◌^◌, ◌<◌, ℤ, List, [], length, slice_get, Some, ⊤}
use Rattle.scop_syntax.specs.Limits.{HasParameters}
use Rattle.scop_syntax.specs.Statements.{statements_of}
use Rattle.scop_syntax.specs.Tree.{Program}
use Rattle.scop_syntax.specs.Walk.{Instance}
use Rattle.loop_tree.specs.Fits.{FitsAll}
use Rattle.loop_tree.specs.Marks.{FlatAll}
use Rattle.loop_tree.specs.Plans.{CarryOut}
use Rattle.loop_tree.specs.Shape.{NestAllTo, TreesAreOf, TreesAreOver, TreesAreUpTo}
use Rattle.loop_tree.specs.Tiling.{IsFlowPlan, Tiling, kept, tiled, items_at}
use Rattle.loop_tree.specs.Tree.{Trees}

-- a plan by which the statements of the program have as many leading scalars, and as many rows in the first band, so
-- that waves have one length, and so have tiles
abbrev pub AreEven : Program → Tiling → Type 0
AreEven program kept = ⊤
AreEven program (tiled size statements) =
    (j k : ℕ) → j < length (statements_of program) → k < length (statements_of program)
    → (length (items_at statements j).leading ≡ length (items_at statements k).leading)
    × (length (items_at statements j).band ≡ length (items_at statements k).band)

-- x stands in the list, and y behind it
abbrev pub StandInOrder : List Instance → Instance → Instance → Type 0
StandInOrder xs x y = (a : ℕ) × (b : ℕ) × (a < b) × (slice_get xs a ≡ Some x) × (slice_get xs b ≡ Some y)

-- trees of a plan of the program, where some arrays are marked: flat, of its statements, forms over loops and
-- parameters, of numbers within 2^45, not too many loops in one another; the plan has waves and tiles of one length; for
-- all parameters in 0..=65536 each number of their walk fits, and they carry out the plan
pub record AreTreesOf (program : Program) (marked : List ℕ) (plan : Tiling) (ts : Trees) : Type 0 where
  pub flat : FlatAll ts
  pub statements : TreesAreOf program ts
  pub over : TreesAreOver (length program.parameters) ts
  pub small : TreesAreUpTo (2 ^ 45) ts
  pub nested : (n : ℕ) × (n < 2 ^ 32) × NestAllTo n ts
  pub even : AreEven program plan
  pub fits : (params : List ℤ) → HasParameters program params → FitsAll ts params []
  pub carry_out : (params : List ℤ) → HasParameters program params → CarryOut program params marked plan ts

-- trees of a plan of the program by which no more need stay in order than reads behind their last writers: but for
-- some arrays, whose conflicts are not kept, they are trees of the plan, and for all parameters in 0..=65536 it is a
-- flow plan
pub record AreFlowTreesOf (program : Program) (plan : Tiling) (ts : Trees) : Type 0 where
  pub apart : List ℕ
  pub trees : AreTreesOf program apart plan ts
  pub flow : (params : List ℤ) → HasParameters program params → IsFlowPlan program params plan
