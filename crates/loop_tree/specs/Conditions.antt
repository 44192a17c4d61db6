-- What the calls that walk a tree ask of it.
use Rattle.std.specs.Prelude.{◌≤◌, ℤ, List, length, All, FitsSigned}
use Rattle.std.specs.Int.{w64}
use Rattle.scop_syntax.specs.Members.{In}
use Rattle.scop_syntax.specs.Walk.{Instance}
use Rattle.loop_tree.specs.Tree.{Trees}
use Rattle.loop_tree.specs.Walk.{Visit, given, walk_all}
use Rattle.loop_tree.specs.Marks.{FlatAll}
use Rattle.loop_tree.specs.Fits.{FitsAll}

-- an instance as code holds it: at most five turns, of 64 bits each
pub record IsHeld (i : Instance) : Type 0 where
  pub few : length i.turns ≤ 5
  pub turns : All (FitsSigned w64) i.turns

-- trees within loops of these values: divisors are at least 1, every number of the walk fits, and so do its instances
pub record CanWalk (ts : Trees) (params outer : List ℤ) : Type 0 where
  pub flat : FlatAll ts
  pub fits : FitsAll ts params outer
  pub held : (v : Visit) → In v (walk_all ts params outer) → IsHeld (given v)
