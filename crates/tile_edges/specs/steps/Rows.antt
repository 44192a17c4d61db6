-- Rows of tiles, one behind another.
use Rattle.std.specs.Prelude.{◌≡◌, ◌⊎◌, ℕ, ◌+◌, ◌<◌, List, [], ◌∷◌, ◌++◌, length, map, get_or, nat_eq}
use Rattle.scop_syntax.specs.Members.{In}
use Rattle.tile_events.specs.Plan.{count_of}
use Rattle.tile_edges.specs.declared.waiting.TileEdges.{TileEdges}
use Rattle.tile_edges.specs.declared.pairing.Pairs.{Pairs}

-- the sets of the code's rows
abbrev pub rows_in : Pairs → List (List ℕ)
rows_in pairs = map (λ s. s.keys) pairs.rows.items

-- all of them
abbrev pub joined : List (List ℕ) → List ℕ
joined [] = []
joined (row ∷ rows) = row ++ joined rows

-- they are counted, and what was told of a tile last, if not itself, waits for it
pub record AreKept (pairs : Pairs) : Type 0 where
  pub count : pairs.count ≡ length (joined (rows_in pairs))
  pub long : length pairs.told.items ≡ length pairs.rows.items
  pub told : (t : ℕ) → (get_or pairs.told.items t t ≡ t)
      ⊎ In (get_or pairs.told.items t t) (get_or (rows_in pairs) t [])

-- where each begins, and where the last one ends, from k on
abbrev pub starts_from : ℕ → List (List ℕ) → List ℕ
starts_from k [] = k ∷ []
starts_from k (row ∷ rows) = k ∷ starts_from (k + length row) rows

-- the edges have these rows
pub record AreRowsOf (rows : List (List ℕ)) (e : TileEdges) : Type 0 where
  pub starts : e.starts.items ≡ starts_from 0 rows
  pub targets : e.targets.items ≡ joined rows
  pub counted : length e.needs.items ≡ length rows
  pub needs : (u : ℕ) → u < length rows
      → get_or e.needs.items u 0 ≡ count_of (λ i. nat_eq (get_or e.targets.items i 0) u) (length e.targets.items)
