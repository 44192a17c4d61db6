-- A plan in which each place writes a cell of its own, and a read takes the one of its source.
use Rattle.std.specs.Prelude.{◌≡◌, ℕ, ◌+◌, ◌<◌, ◌≢◌, ⊤, List, [], ◌∷◌, Option, Some, None, nat_lt, if◌then◌else◌}
use Rattle.scop_syntax.specs.Members.{In}
use Rattle.tile_events.specs.Plan.{Plan, IsByWaves}

-- the cell of a read where it has no source, else the copy of that source behind the n cells
abbrev pub copy_of : ℕ → ℕ → Option ℕ → ℕ
copy_of n c None = c
copy_of n c (Some i) = n + i

-- so for reads with their sources, in turn
abbrev pub copies_of : ℕ → List ℕ → List (Option ℕ) → List ℕ
copies_of n [] sources = []
copies_of n (c ∷ cs) [] = []
copies_of n (c ∷ cs) (i ∷ sources) = copy_of n c i ∷ copies_of n cs sources

-- the plan with a copy for each place behind its cells
abbrev pub expanded : Plan → (ℕ → List (Option ℕ)) → Plan
expanded p sources = record p {
  cells = p.cells + p.places;
  written = λ j. p.cells + j;
  read = λ j. copies_of p.cells (p.read j) (sources j);
  initial = λ c. if nat_lt c p.cells then p.initial c else 0;
}

-- the source is the greatest place before j that writes the cell, none where there is none
abbrev pub IsSource : Plan → ℕ → ℕ → Option ℕ → Type 0
IsSource p j c None = (i : ℕ) → i < j → p.written i ≢ c
IsSource p j c (Some i) = (i < j) × (p.written i ≡ c) × ((k : ℕ) → i < k → k < j → p.written k ≢ c)

-- so for reads in turn, as many sources as reads
abbrev pub AreSources : Plan → ℕ → List ℕ → List (Option ℕ) → Type 0
AreSources p j [] [] = ⊤
AreSources p j [] (i ∷ sources) = ⊥
AreSources p j (c ∷ cs) [] = ⊥
AreSources p j (c ∷ cs) (i ∷ sources) = IsSource p j c i × AreSources p j cs sources

-- the source of a place's read comes first in one tile, or lies in an earlier wave
pub record IsFlowPlan (p : Plan) (sources : ℕ → List (Option ℕ)) : Type 0 where
  pub ordered : (i j : ℕ) → j < p.places → In (Some i) (sources j) → IsByWaves p i j
