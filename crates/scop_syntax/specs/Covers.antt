-- Covers: of the conflicts of a walk those between a place and a last or a next writer alone (Feautrier 1991).
use Rattle.std.specs.Prelude.{◌≡◌, ℕ, suc, List, [], ◌∷◌, ◌⊎◌, Some}
use Rattle.scop_syntax.specs.Cells.{Cell, cell_at}
use Rattle.scop_syntax.specs.Walk.{Visit}
use Rattle.scop_syntax.specs.Writers.{last_of, last_writer, next_of, next_writer}

-- i is the last writer, before place j, of the cell that some access there touches
abbrev pub IsLastWriter : List Visit → ℕ → ℕ → Type 0
IsLastWriter visits i j = (a : ℕ) × (last_of visits j a ≡ Some i)

-- j is the next writer, behind place i, of the cell that some read there touches; the reads are numbered from 1
abbrev pub IsNextWriter : List Visit → ℕ → ℕ → Type 0
IsNextWriter visits i j = (r : ℕ) × (next_of visits i (suc r) ≡ Some j)

-- place j covers place i
abbrev pub Cover : List Visit → ℕ → ℕ → Type 0
Cover visits i j = IsLastWriter visits i j ⊎ IsNextWriter visits i j

-- place j covers place i by the cell: i is its last writer before place j, where some access touches it, or j its next
-- writer behind place i, where some read does
abbrev pub CoverBy : List Visit → Cell → ℕ → ℕ → Type 0
CoverBy visits c i j =
    ((a : ℕ) × (cell_at visits j a ≡ Some c) × (last_writer visits j c ≡ Some i))
    ⊎ ((r : ℕ) × (cell_at visits i (suc r) ≡ Some c) × (next_writer visits i c ≡ Some j))

-- covers by one cell one after another from i over these places to j
abbrev pub Follows : List Visit → Cell → ℕ → List ℕ → ℕ → Type 0
Follows visits c i [] j = CoverBy visits c i j
Follows visits c i (k ∷ ks) j = CoverBy visits c i k × Follows visits c k ks j

-- a chain of covers by one cell from i to j
abbrev pub Chain : List Visit → Cell → ℕ → ℕ → Type 0
Chain visits c i j = (ks : List ℕ) × Follows visits c i ks j
