-- The ways to the leaves of a tree, as they are found from the last of its nodes to the first.
use Rattle.std.specs.Prelude.{Bool, false, List, [], ◌∷◌, ◌++◌, Option, Some, None, Vec, ◌||◌, if◌then◌else◌}
use Rattle.std.specs.Global.{Global}
use Rattle.quast_trees.specs.declared.node.Node.{Node}
use Rattle.quast_trees.specs.declared.node.Node.TheVariants as node
use Rattle.quast_trees.specs.Paths.{Turn, up, down, bound, LeafPath, path_to, are_opposite, fails}
use Rattle.quast_trees.specs.declared.paths.Turn.{Turn as Held}
use Rattle.quast_trees.specs.PathView.{turns_held}

-- the way that a value holds, if it holds one
abbrev pub way_held : Option (Vec Held Global) → Option (List Turn)
way_held None = None
way_held (Some turns) = Some (turns_held turns.items)

-- whether the other side of a test was passed, with no bind since, once this is passed too
abbrev pub met_by : Turn → Bool → Turn → Bool
met_by turn before (up f) = before || are_opposite (up f) turn
met_by turn before (down f) = before || are_opposite (down f) turn
met_by turn before (bound f d) = false

-- once all of these are
abbrev pub met : Turn → Bool → List Turn → Bool
met turn before [] = before
met turn before (t ∷ ts) = met turn (met_by turn before t) ts

-- the way with a turn behind it, where it is not blocked by that
abbrev pub with_turn : List Turn → Turn → Option (List Turn)
with_turn ts t = if fails t || met t false ts then None else Some (ts ++ t ∷ [])

-- the ways to the trees whose nodes still come, the next on top, none where it is blocked; and the paths behind them
pub record Ways : Type 0 where
  pub waiting : List (Option (List Turn))
  pub found : List LeafPath

-- the ways of these parts
abbrev pub ways_of : List (Option (List Turn)) → List LeafPath → Ways
ways_of waiting found = record { waiting = waiting; found = found }

-- the way on top
abbrev pub upper : List (Option (List Turn)) → Option (List Turn)
upper [] = None
upper (w ∷ ws) = w

-- those below it
abbrev pub lower : List (Option (List Turn)) → List (Option (List Turn))
lower [] = []
lower (w ∷ ws) = ws

-- the ways to the sides of a node
abbrev pub side_ways : Node → Option (List Turn) → List (Option (List Turn)) → List (Option (List Turn))
side_ways (node.Branch f n) None ws = None ∷ None ∷ ws
side_ways (node.Branch f n) (Some ts) ws = with_turn ts (down f) ∷ with_turn ts (up f) ∷ ws
side_ways (node.Bind f d) None ws = None ∷ ws
side_ways (node.Bind f d) (Some ts) ws = with_turn ts (bound f d) ∷ ws
side_ways node.Initial w ws = ws
side_ways (node.Forms l) w ws = ws

-- the path to a node, if it is a leaf of forms, before those that are found
abbrev pub path_found : Node → Option (List Turn) → List LeafPath → List LeafPath
path_found (node.Forms l) (Some ts) ps = path_to ts l ∷ ps
path_found (node.Forms l) None ps = ps
path_found node.Initial w ps = ps
path_found (node.Branch f n) w ps = ps
path_found (node.Bind f d) w ps = ps

-- one node, from the last on
abbrev pub way_step : Node → Ways → Ways
way_step x s =
    ways_of (side_ways x (upper s.waiting) (lower s.waiting)) (path_found x (upper s.waiting) s.found)

-- all of them
abbrev pub ways_from_last : List Node → Ways → Ways
ways_from_last [] s = s
ways_from_last (x ∷ xs) s = way_step x (ways_from_last xs s)
