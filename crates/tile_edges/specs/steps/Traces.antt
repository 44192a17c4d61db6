-- What a pass keeps of each cell, by the tiles that hold the places: a mark, which is 0 or one more than the tile of its
-- last writer, and unless flow alone counts, the tiles of the readers since then.
use Rattle.std.specs.Prelude.{◌≡◌, ◌≢◌, ◌⊎◌, ℕ, zero, suc, ◌<◌, Bool, true, false, List, [], ◌∷◌, ◌++◌, get_or, Option}
use Rattle.std.specs.Prelude.{Some, None, nat_eq, if◌then◌else◌}
use Rattle.scop_syntax.specs.Members.{In}
use Rattle.tile_events.specs.Plan.{Plan}
use Rattle.tile_edges.specs.steps.Passing.{last_at, readers_at, sources_at}

-- the tiles that a mark stands for
abbrev pub marked : ℕ → List ℕ
marked zero = []
marked (suc t) = t ∷ []

-- those that the marks of cells stand for
abbrev pub met : List ℕ → List ℕ → List ℕ
met marks [] = []
met marks (c ∷ cs) = marked (get_or marks c 0) ++ met marks cs

-- those that are met where cells are read and then w is written: what the marks of those stand for, and unless flow
-- alone counts, what the mark of w stands for and its readers
abbrev pub met_at : Bool → List ℕ → List (List ℕ) → ℕ → List ℕ → List ℕ
met_at true marks readers w cells = met marks cells
met_at false marks readers w cells = met marks cells ++ (marked (get_or marks w 0) ++ get_or readers w [])

-- the mark is that of the place, which a tile holds
abbrev pub IsMark : (ℕ → ℕ → Type 0) → Option ℕ → ℕ → Type 0
IsMark H None m = m ≡ 0
IsMark H (Some i) m = (t : ℕ) × (m ≡ suc t) × H t i

-- the marks of cells are those of the first n places, and so are the tiles of their readers unless flow alone counts
pub record AreTraces (flow : Bool) (H : ℕ → ℕ → Type 0) (p : Plan) (n : ℕ) (marks : List ℕ) (readers : List (List ℕ))
    : Type 0 where
  pub writer : (c : ℕ) → IsMark H (last_at p n c) (get_or marks c 0)
  pub found : flow ≡ false → (c t : ℕ) → In t (get_or readers c []) → (i : ℕ) × In i (readers_at p n c) × H t i
  pub reader : flow ≡ false → (c i : ℕ) → In i (readers_at p n c) → (t : ℕ) × In t (get_or readers c []) × H t i

-- what changes where tile u holds a place that writes the cell w and reads the cells rs; of readers, unless flow alone
-- counts
pub record HasVisited (flow : Bool) (u w : ℕ) (rs : List ℕ) (marks : List ℕ) (readers : List (List ℕ))
    (marks_then : List ℕ) (readers_then : List (List ℕ)) : Type 0 where
  pub writer : (c : ℕ) → get_or marks_then c 0 ≡ (if nat_eq w c then suc u else get_or marks c 0)
  pub found : flow ≡ false → (c t : ℕ) → In t (get_or readers_then c [])
      → (w ≢ c) × (In t (get_or readers c []) ⊎ (In c rs × (t ≡ u)))
  pub kept : flow ≡ false → (c t : ℕ) → w ≢ c → In t (get_or readers c []) → In t (get_or readers_then c [])
  pub entered : flow ≡ false → (c : ℕ) → w ≢ c → In c rs → In u (get_or readers_then c [])

-- the rows of tiles hold the pairs that the first n places meet
pub record ArePairs (flow : Bool) (H : ℕ → ℕ → Type 0) (p : Plan) (n : ℕ) (rows : List (List ℕ)) : Type 0 where
  pub sound : (t u : ℕ) → In u (get_or rows t []) → (t ≢ u)
      × ((i : ℕ) × (k : ℕ) × (k < n) × In i (sources_at flow p k) × H t i × H u k)
  pub complete : (i k : ℕ) → k < n → In i (sources_at flow p k)
      → (t : ℕ) × (u : ℕ) × H t i × H u k × ((t ≡ u) ⊎ In u (get_or rows t []))
