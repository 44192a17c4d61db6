-- Points within loops that stand in one another.
use Rattle.std.specs.Prelude.{ℤ, List, [], ◌∷◌}
use Rattle.scop_syntax.specs.Tree.{Head}
use Rattle.scop_syntax.specs.Walk.{turn_point}

-- the point within these turns of loops, outermost first, from a point on
abbrev pub point_in : List Head → List ℤ → List ℤ → List ℤ
point_in [] point turns = point
point_in (head ∷ heads) point [] = point
point_in (head ∷ heads) point (turn ∷ turns) = point_in heads (turn_point head point turn) turns
