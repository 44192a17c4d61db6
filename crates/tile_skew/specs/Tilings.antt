-- The tiling of a schedule: of each statement the items of the blocks, in order.
use Rattle.std.specs.Prelude.{ℕ, zero, suc, not, List, [], ◌∷◌, ◌++◌}
use Rattle.whole_numbers.specs.Affine.{Affine, form_of}
use Rattle.stmt_graph.specs.Graph.{number_in}
use Rattle.loop_tree.specs.Tiling.{TileRow, Item, row, scalar as number, Items, Tiling, tiled}
use Rattle.schedule_rows.specs.Items.{Row, Marked, Block, scalar, band, part_of}

-- a row's form at statement k, over the turns of the loops round it
abbrev pub form_at : Row → ℕ → Affine
form_at r k = form_of (part_of r k).coefficients (part_of r k).shift

-- the rows of a band at statement k; those that are not parallel carry
abbrev pub rows_at : List Marked → ℕ → List TileRow
rows_at [] k = []
rows_at (m ∷ ms) k = record { form = form_at m.row k; carries = not m.parallel } ∷ rows_at ms k

-- and as items
abbrev pub row_items : List Marked → ℕ → List Item
row_items [] k = []
row_items (m ∷ ms) k = row (form_at m.row k) ∷ row_items ms k

-- statement k's items of blocks
abbrev pub block_items : List Block → ℕ → List Item
block_items [] k = []
block_items (scalar numbers ∷ bs) k = number (number_in numbers k) ∷ block_items bs k
block_items (band ms ∷ bs) k = row_items ms k ++ block_items bs k

-- the rows of the first band, with their marks
abbrev pub first_band : List Block → List Marked
first_band [] = []
first_band (scalar numbers ∷ bs) = first_band bs
first_band (band ms ∷ bs) = ms

-- its scalars before the first band
abbrev pub leading_at : List Block → ℕ → List ℕ
leading_at [] k = []
leading_at (scalar numbers ∷ bs) k = number_in numbers k ∷ leading_at bs k
leading_at (band ms ∷ bs) k = []

-- its rows of the first band
abbrev pub first_band_at : List Block → ℕ → List TileRow
first_band_at [] k = []
first_band_at (scalar numbers ∷ bs) k = first_band_at bs k
first_band_at (band ms ∷ bs) k = rows_at ms k

-- its items behind the first band
abbrev pub behind_at : List Block → ℕ → List Item
behind_at [] k = []
behind_at (scalar numbers ∷ bs) k = behind_at bs k
behind_at (band ms ∷ bs) k = block_items bs k

-- statement k's items
abbrev pub statement_items : List Block → ℕ → Items
statement_items bs k = record { leading = leading_at bs k; band = first_band_at bs k; behind = behind_at bs k }

-- those of n statements, from statement k on
abbrev pub statements_from : List Block → ℕ → ℕ → List Items
statements_from bs k zero = []
statements_from bs k (suc n) = statement_items bs k ∷ statements_from bs (suc k) n

-- the tiling of the blocks of n statements, by tiles of a size
abbrev pub schedule_tiling : ℕ → ℕ → List Block → Tiling
schedule_tiling size n bs = tiled size (statements_from bs 0 n)
