-- The row of all cells while a run is made.
use Rattle.std.specs.Prelude.{◌≡◌, ℕ, ℤ, List, ◌++◌, replicate}
use Rattle.scop_syntax.specs.Execution.{IsShaped, exec}
use Rattle.scop_syntax.specs.Tree.{Program}
use Rattle.tile_events.specs.Flat.{flat}

-- the new row begins with the old one
abbrev pub Begins : List ℕ → List ℕ → Type 0
Begins old new = (rest : List ℕ) × (new ≡ old ++ rest)

-- behind the old row stand zeros in the new one
abbrev pub HasZeros : List ℕ → List ℕ → Type 0
HasZeros old new = (n : ℕ) × (new ≡ old ++ replicate n 0)

-- where the old row has the cells of arrays of these extents, the new one has those that the program's execution leaves
abbrev pub Executes : Program → List ℤ → List (List ℕ) → List ℕ → List ℕ → Type 0
Executes program params extents old new = (contents : List (List ℕ)) → IsShaped extents contents → old ≡ flat contents
    → new ≡ flat (exec program params contents)
