-- The lines that tell how many tiles and waves a plan has, how many workers run it, and how its tiles were released.
use Rattle.std.specs.Prelude.{ℕ, List, [], ◌∷◌, codes, decimal}
use Rattle.std.specs.List.{concat}

-- `tiles T waves W workers K` and a line feed
abbrev pub tiles_text : ℕ → ℕ → ℕ → List ℕ
tiles_text tiles waves workers =
    concat
    (codes "tiles " ∷ decimal tiles ∷ codes " waves " ∷ decimal waves ∷ codes " workers " ∷ decimal workers
    ∷ codes "\n" ∷ [])

-- `edges E` and a line feed: how many pairs of tiles there are of which the second waits for the first
abbrev pub edges_text : ℕ → List ℕ
edges_text edges = concat (codes "edges " ∷ decimal edges ∷ codes "\n" ∷ [])

-- tiles begin by waves, since there are too many such pairs
abbrev pub waves_edges_text : List ℕ
waves_edges_text = codes "waves: edges\n"

-- tiles begin by waves, since there are arrays that are added to in any order
abbrev pub waves_reduce_text : List ℕ
waves_reduce_text = codes "waves: reduce\n"
