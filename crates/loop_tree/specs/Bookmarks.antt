-- What is kept of a place in the visits of trees: of each mark all but its last value, since that is what the upper
-- bound of the loop says.
use Rattle.std.specs.Prelude.{◌≡◌, ℤ, pos, List, [], length, map}
use Rattle.scop_syntax.specs.Walk.{Instance}
use Rattle.loop_tree.specs.Spot.{Mark, mark, deep_all, IsAt, rest_of}
use Rattle.loop_tree.specs.Tree.{Trees}
use Rattle.loop_tree.specs.declared.bookmark.Step.{Step}

-- the mark that a step keeps, but for its last value
abbrev pub kept_in : Step → Mark
kept_in s = mark s.place s.begun s.value (pos 0)

-- a mark but for its last value
abbrev pub without_last : Mark → Mark
without_last (mark k begun x z) = mark k begun x (pos 0)

-- marks that stand in trees once their last values are put right
pub record CanStand (ts : Trees) (ms : List Mark) (params outer : List ℤ) : Type 0 where
  pub marks : List Mark
  pub alike : map without_last marks ≡ map without_last ms
  pub stands : IsAt ts marks params outer

-- steps that keep a place in these trees: one for each sequence
pub record IsBookmarkOf (ts : Trees) (params : List ℤ) (steps : List Step) : Type 0 where
  pub room : length steps ≡ deep_all ts
  pub stands : CanStand ts (map kept_in steps) params []

-- the instances that are still to come from there on
abbrev pub to_come_from : Trees → List ℤ → List Step → List Instance
to_come_from ts params steps = rest_of ts (map kept_in steps) params []
