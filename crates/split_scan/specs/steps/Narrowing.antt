-- Rows that leave out no key of a node's sets.
use Rattle.std.specs.Prelude.{◌++◌, ◌∷◌, ℕ, ℤ, List}
use Rattle.whole_numbers.specs.Affine.{Affine}
use Rattle.integer_sets.specs.Scanned.{Scanned}
use Rattle.plain_scan.specs.Sets.{Keys}
use Rattle.plain_scan.specs.steps.Serving.{AllAtLeast}
use Rattle.split_scan.specs.steps.Questions.{IsIn}

-- where the rows hold, no set has a key in the node
abbrev pub HasNoKey : ℕ → List Affine → List Scanned → List Affine → Type 0
HasNoKey m inside all cuts = (params outer : List ℤ) (x : ℤ) → IsIn m inside params outer x
    → AllAtLeast cuts (outer ++ x ∷ params) → (r : List ℤ) → Keys all params (outer ++ x ∷ r) → ⊥

-- the rows hold at each key that a set has in the node
abbrev pub HoldAtKeys : ℕ → List Affine → List Scanned → List Affine → Type 0
HoldAtKeys m inside all cuts = (params outer : List ℤ) (x : ℤ) → IsIn m inside params outer x → (r : List ℤ)
    → Keys all params (outer ++ x ∷ r) → AllAtLeast cuts (outer ++ x ∷ params)
