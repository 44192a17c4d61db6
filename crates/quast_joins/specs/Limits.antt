-- The bounds of joins, and why a join is refused.
use Rattle.std.specs.Prelude.{◌≡◌, ℕ, ◌^◌, ◌-◌, ◌<◌, ◌≤◌, ℤ, pos}
use Rattle.quast_joins.specs.Counts.{capped}
use Rattle.quast_joins.specs.declared.way.JoinStop.{JoinStop}
use Rattle.quast_joins.specs.declared.way.JoinStop.TheVariants as stop

-- the greatest number of nodes that a join may have
abbrev pub node_limit : ℕ
node_limit = 4096

-- the greatest number of nodes that is told
abbrev pub most_told : ℕ
most_told = 2 ^ 128 - 1

-- the greatest number of a leaf's forms, in absolute value
abbrev pub leaf_limit : ℤ
leaf_limit = pos (2 ^ 125)

-- why a join of so many nodes is refused: it has too many, which are told, or it has not, and memory is wanting
abbrev pub IsStopOf : ℕ → JoinStop → Type 0
IsStopOf nodes (stop.Spent told) = (node_limit < nodes) × (told ≡ capped most_told nodes)
IsStopOf nodes stop.NoMemory = nodes ≤ node_limit
