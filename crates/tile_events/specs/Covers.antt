-- Which places stand directly behind one another at some cell, and the pairs of tiles that hold such places.
use Rattle.std.specs.Prelude.{◌≡◌, ℕ, ◌<◌, ◌≢◌, ◌⊎◌, List, [], ◌∷◌}
use Rattle.scop_syntax.specs.Members.{In}
use Rattle.tile_events.specs.Plan.{Plan}
use Rattle.tile_events.specs.Releases.{Edges, Leads}

-- no place between i and j writes the cell
abbrev pub AreFree : Plan → ℕ → ℕ → ℕ → Type 0
AreFree p i j c = (k : ℕ) → i < k → k < j → p.written k ≢ c

-- both places touch the cell, and at least one of the two writes it
abbrev pub Meet : Plan → ℕ → ℕ → ℕ → Type 0
Meet p i j c =
    ((p.written i ≡ c) × ((p.written j ≡ c) ⊎ In c (p.read j))) ⊎ ((p.written j ≡ c) × In c (p.read i))

-- i is the last place before j that writes a cell which j touches, or j is the next place behind i that writes a cell
-- which i reads
pub record Covers (p : Plan) (i j : ℕ) : Type 0 where
  pub before : i < j
  pub within : j < p.places
  pub cell : ℕ
  pub free : AreFree p i j cell
  pub meet : Meet p i j cell

-- so at once, or by way of places in between
abbrev pub Covered : Plan → List ℕ → ℕ → ℕ → Type 0
Covered p [] i j = Covers p i j
Covered p (k ∷ ks) i j = Covers p i k × Covered p ks k j

-- the pairs are exactly those of two tiles of which the first holds a place that covers one of the second
pub record ArePairsOf (p : Plan) (e : Edges) : Type 0 where
  pub apart : (t u : ℕ) → Leads p e t u → t ≢ u
  pub covers : (t u : ℕ) → Leads p e t u → (i : ℕ) × (j : ℕ) × (p.tile i ≡ t) × (p.tile j ≡ u) × Covers p i j
  pub all : (i j : ℕ) → Covers p i j → p.tile i ≢ p.tile j → Leads p e (p.tile i) (p.tile j)
