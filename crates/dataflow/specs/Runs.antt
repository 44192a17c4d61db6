-- The candidates solved and joined one after the other, up to the first that stops.
use Rattle.std.specs.Prelude.{ℕ, List, [], ◌∷◌, nat_lt, Result, Ok, Err, if◌then◌else◌}
use Rattle.quast_trees.specs.Tree.{Tree, initial}
use Rattle.quast_joins.specs.declared.way.Way.{Way}
use Rattle.quast_joins.specs.Joins.{join}
use Rattle.quast_joins.specs.Counts.{join_count}
use Rattle.quast_joins.specs.Limits.{node_limit}

-- why an access stays unresolved: a problem stops, or a join has too many nodes
pub data Halt (E : Type 0) : Type 0 where
  posed : E → Halt E
  nodes : ℕ → Halt E

-- a candidate's tree joined behind what stands, and how it goes on from there; or the first stop
abbrev pub then_join : {E : Type 0} → Way → ℕ → Tree → Result Tree E → (Tree → Result Tree (Halt E))
    → Result Tree (Halt E)
then_join way n a (Err e) go_on = Err (posed e)
then_join way n a (Ok b) go_on =
    if nat_lt node_limit (join_count a b) then Err (nodes (join_count a b)) else go_on (join way n a b)

-- all candidates, behind what stands
abbrev pub sources_run : {C E : Type 0} → Way → ℕ → (C → Result Tree E) → Tree → List C → Result Tree (Halt E)
sources_run way n solve acc [] = Ok acc
sources_run way n solve acc (c ∷ cs) = then_join way n acc (solve c) (λ t. sources_run way n solve t cs)

-- a candidate's tree, the initial value where it stops
abbrev pub or_initial : {E : Type 0} → Result Tree E → Tree
or_initial (Err e) = initial
or_initial (Ok t) = t
