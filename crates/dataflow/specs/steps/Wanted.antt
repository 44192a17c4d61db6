-- The wanted one of places: the last, looking back, or the next, looking on.
use Rattle.std.specs.Prelude.{ℕ, ◌≤◌, nat_lt, Option, Some, None, if◌then◌else◌, ◌≡◌, ◌<◌, true, ℤ, List, slice_get}
use Rattle.quast_joins.specs.declared.way.Way.{Way}
use Rattle.quast_joins.specs.declared.way.Way.TheVariants.{Later, Earlier}
use Rattle.quast_trees.specs.Leaf.{Leaf}
use Rattle.scop_syntax.specs.Walk.{Visit}
use Rattle.scop_syntax.specs.Cells.{Cell}
use Rattle.scop_syntax.specs.Writers.{writes}
use Rattle.dataflow.specs.Places.{Names}

-- i is wanted at most as much as k
abbrev pub AtMost : Way → ℕ → ℕ → Type 0
AtMost Later i k = i ≤ k
AtMost Earlier i k = k ≤ i

-- o is the wanted one of the places that have the property, none where no place has it
abbrev pub IsBest : Way → (ℕ → Type 0) → Option ℕ → Type 0
IsBest way P None = (k : ℕ) → P k → ⊥
IsBest way P (Some i) = P i × ((k : ℕ) → P k → AtMost way k i)

-- the wanted one of two places, where there is one
abbrev pub better : Way → Option ℕ → Option ℕ → Option ℕ
better way None u = u
better way (Some i) None = Some i
better Later (Some i) (Some k) = if nat_lt i k then Some k else Some i
better Earlier (Some i) (Some k) = if nat_lt k i then Some k else Some i

-- place k is an instance of statement number at turns of Q
abbrev pub IsAmong : List Visit → ℕ → (List ℤ → Type 0) → ℕ → Type 0
IsAmong visits number Q k = (v : Visit) × (slice_get visits k ≡ Some v) × (v.number ≡ number) × Q v.turns

-- the answer names the wanted one of the places that have the property
abbrev pub Finds : Way → List Visit → (ℕ → Type 0) → Leaf → Type 0
Finds way visits P l = (o : Option ℕ) × Names visits l o × IsBest way P o

-- place k writes the cell, before place j or behind it
abbrev pub Writes : Way → List Visit → ℕ → Cell → ℕ → Type 0
Writes Later visits j c k = (k < j) × (writes (slice_get visits k) c ≡ true)
Writes Earlier visits j c k = (j < k) × (writes (slice_get visits k) c ≡ true)
