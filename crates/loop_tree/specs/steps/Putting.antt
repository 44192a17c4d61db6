-- Marks whose last values are put right.
use Rattle.std.specs.Prelude.{◌≡◌, ℤ, List, map}
use Rattle.loop_tree.specs.Bookmarks.{without_last}
use Rattle.loop_tree.specs.Spot.{IsAt, Mark}
use Rattle.loop_tree.specs.Tree.{Trees}

-- they stand where the old ones were to stand
pub record HasPut (ts : Trees) (old new : List Mark) (params outer : List ℤ) : Type 0 where
  pub alike : map without_last new ≡ map without_last old
  pub stands : IsAt ts new params outer
