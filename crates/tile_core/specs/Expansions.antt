-- What a run knows in which each instance has a copy of its own: of each read its source, and of each visit its place.
use Rattle.std.specs.Prelude.{◌≡◌, ◌<◌, ℕ, ℤ, List, length, slice_get, Some}
use Rattle.scop_syntax.specs.Execution.{layout, total_cells}
use Rattle.scop_syntax.specs.Tree.{Program}
use Rattle.loop_tree.specs.Tree.{Trees}
use Rattle.expansions.specs.Expansions.{ArePlacesOf, AreSourcesOf}
use Rattle.tile_list.specs.declared.list.TileList.{TileList}
use Rattle.tile_core.specs.Ranks.{sizes_of, start_at}
use Rattle.tile_core.specs.declared.expansion.Expansion.{Expansion}

-- how many cells the arrays have, behind which the copies stand, the sources of the walk's reads, the places of the trees'
-- visits, and how many visits stand before each tile of the list
pub record IsExpansionOf (program : Program) (params : List ℤ) (ts : Trees) (list : TileList) (e : Expansion)
    : Type 0 where
  pub cells : e.cells ≡ total_cells (layout program params)
  pub sources : AreSourcesOf program params e.sources
  pub places : ArePlacesOf program params ts e.places.items
  pub starts : (t : ℕ) → t < length list.tiles.items
      → slice_get e.starts.items t ≡ Some (start_at (sizes_of list.tiles.items) t)
