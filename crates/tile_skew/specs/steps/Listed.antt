-- A statement's items as the code reads them off a schedule's items and marks.
use Rattle.std.specs.Prelude.{◌≡◌, ℕ, suc, ◌<◌, Bool, not, List, [], ◌∷◌, length, All, ⊤}
use Rattle.stmt_graph.specs.Graph.{number_in}
use Rattle.loop_tree.specs.Tiling.{TileRow, row as tile_row, scalar as tile_scalar}
use Rattle.loop_tree.specs.Tiling as tiling
use Rattle.schedule_rows.specs.Items.{part_of}
use Rattle.schedule_rows.specs.Schedule.{Item, row, scalar}
use Rattle.schedule_rows.specs.Sized.{IsSmall}
use Rattle.schedule_rows.specs.declared.item.Band.{Band}
use Rattle.tile_skew.specs.Tilings.{form_at}

-- the scalars before the first row
abbrev pub leading_in : List Item → ℕ → List ℕ
leading_in [] k = []
leading_in (row r ∷ items) k = []
leading_in (scalar numbers ∷ items) k = number_in numbers k ∷ leading_in items k

-- the rows among items, with their marks
abbrev pub rows_in : List Item → List Bool → ℕ → List TileRow
rows_in [] marks k = []
rows_in (i ∷ items) [] k = []
rows_in (row r ∷ items) (p ∷ marks) k = record { form = form_at r k; carries = not p } ∷ rows_in items marks k
rows_in (scalar numbers ∷ items) (p ∷ marks) k = rows_in items marks k

-- statement k's item
abbrev pub item_at : ℕ → Item → tiling.Item
item_at k (row r) = tile_row (form_at r k)
item_at k (scalar numbers) = tile_scalar (number_in numbers k)

-- where the first of these bands begins, and the place behind it, of so many items
abbrev pub AreBounds : List Band → ℕ → ℕ → ℕ → Type 0
AreBounds [] count first behind = (first ≡ count) × (behind ≡ count)
AreBounds (b ∷ bs) count first behind = (first ≡ b.first) × (behind ≡ suc b.last)

-- the first of these bands ends among so many items
abbrev pub IsInside : List Band → ℕ → Type 0
IsInside [] count = ⊤
IsInside (b ∷ bs) count = b.last < count

-- a row has small numbers for statement k, a scalar has a number for it
abbrev pub HasStatement : ℕ → Item → Type 0
HasStatement k (row r) =
    (k < length r.parts) × All IsSmall (part_of r k).coefficients × IsSmall (part_of r k).shift
HasStatement k (scalar numbers) = k < length numbers
