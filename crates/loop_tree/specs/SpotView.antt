-- The place that the code's spot stands for.
use Rattle.std.specs.Prelude.{◌≡◌, ℤ, List, [], ◌∷◌, ◌++◌, map, length, Option, Some, None, All}
use Rattle.scop_syntax.specs.Walk.{Instance}
use Rattle.scop_syntax.specs.View.{instance_of}
use Rattle.scop_syntax.specs.declared.instance.Instance.{Instance as CodeInstance}
use Rattle.loop_tree.specs.Braids.{IsBraid, left_of_braid}
use Rattle.loop_tree.specs.Conditions.{IsHeld}
use Rattle.loop_tree.specs.Spot.{Mark, mark, deep_all, IsAt, rest_of}
use Rattle.loop_tree.specs.Stretches.{left_of}
use Rattle.loop_tree.specs.Tree.{Trees}
use Rattle.loop_tree.specs.declared.spot.Mark.{Mark as CodeMark}
use Rattle.loop_tree.specs.declared.spot.Spot.{Spot}

-- a mark
abbrev pub mark_of : CodeMark → Mark
mark_of m = mark m.place m.begun m.value m.last

-- the marks
abbrev pub marks_of : List CodeMark → List Mark
marks_of ms = map mark_of ms

-- the marks of a spot
abbrev pub marks_in : Spot → List Mark
marks_in spot = marks_of spot.marks.items

-- a spot of trees for these parameters: it has a mark for each sequence, and the instances of its stretch and its braid
-- can be held
pub record IsSpotOf (ts : Trees) (params : List ℤ) (spot : Spot) : Type 0 where
  pub room : length spot.marks.items ≡ deep_all ts
  pub stands : IsAt ts (marks_in spot) params []
  pub held : All IsHeld (left_of spot.stretch)
  pub braid : IsBraid spot.braid

-- the instances that are still to come: those of its stretch, those of its braid, then those behind its marks
abbrev pub to_come : Trees → List ℤ → Spot → List Instance
to_come ts params spot = left_of spot.stretch ++ (left_of_braid spot.braid ++ rest_of ts (marks_in spot) params [])

-- two spots at one place
pub record StandAlike (s u : Spot) : Type 0 where
  pub marks : marks_in s ≡ marks_in u
  pub stretch : s.stretch ≡ u.stretch
  pub braid : s.braid ≡ u.braid

-- one instance, or none
abbrev pub found_in : Option CodeInstance → List Instance
found_in None = []
found_in (Some i) = instance_of i ∷ []
