-- Trees that visit what others visit, with fewer tests, bounds and loops.
use Rattle.std.specs.Prelude.{◌≡◌, ℕ, ◌^◌, ℤ, List, [], length, map}
use Rattle.scop_syntax.specs.Limits.{AreInRange}
use Rattle.scop_syntax.specs.Tree.{Program}
use Rattle.loop_tree.specs.Fits.{FitsAll}
use Rattle.loop_tree.specs.Marks.{FlatAll}
use Rattle.loop_tree.specs.Plans.{AreFree, Conflict}
use Rattle.loop_tree.specs.Shape.{AreSerial, NestAllTo, TreesAreOf, TreesAreOver, TreesAreUpTo}
use Rattle.loop_tree.specs.Tree.{Trees}
use Rattle.loop_tree.specs.Walk.{Visit, walk_all}

-- a visit without the values of its loops: those of parallel loops, the statement and its turns
abbrev pub shown : Visit → Visit
shown v = record { values = []; parallel = v.parallel; number = v.number; turns = v.turns }

-- what trees show for these parameters
abbrev pub shows : Trees → List ℤ → List Visit
shows ts params = map shown (walk_all ts params [])

-- for parameters in 0..=65536 the new trees show what the old ones show, and iterations of parallel loops that were
-- free of conflicts are so; what trees of a text are like, they stay
pub record Simplifies (parameters : ℕ) (old new : Trees) : Type 0 where
  pub shown : (params : List ℤ) → length params ≡ parameters → AreInRange params → shows new params ≡ shows old params
  pub free : (program : Program) (params : List ℤ) → length params ≡ parameters → AreInRange params
      → AreFree (Conflict program params) old params [] → AreFree (Conflict program params) new params []
  pub fits : (params : List ℤ) → length params ≡ parameters → AreInRange params → FitsAll new params []
  pub serial : AreSerial old → AreSerial new
  pub flat : FlatAll old → FlatAll new
  pub statements : (program : Program) → TreesAreOf program old → TreesAreOf program new
  pub over : TreesAreOver parameters new
  pub small : TreesAreUpTo (2 ^ 45) new
  pub nested : (n : ℕ) → NestAllTo n old → NestAllTo n new
