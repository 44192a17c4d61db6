-- Which tiles wait for one another: of two tiles the second waits for the first where a place of the walk that it holds
-- waits for one of the first.
use Rattle.std.specs.Prelude.{◌≡◌, ◌≢◌, ◌↔◌, ℕ, suc, ◌<◌, ℤ, Bool, List, length, get_or, slice_get, Some}
use Rattle.scop_syntax.specs.Members.{In}
use Rattle.scop_syntax.specs.Tree.{Program}
use Rattle.scop_syntax.specs.View.{instance_of}
use Rattle.scop_syntax.specs.Walk.{Instance, Visit, instance, walk_of}
use Rattle.loop_tree.specs.Tiling.{Tiling}
use Rattle.tile_list.specs.Tiles.{InOneTile}
use Rattle.tile_list.specs.declared.list.Tile.{Tile}
use Rattle.tile_list.specs.declared.list.TileList.{TileList}
use Rattle.tile_events.specs.Deal.{tile_at}
use Rattle.tile_events.specs.Releases.{AreEdges, Edges, pairs_to}
use Rattle.tile_edges.specs.Waiting.{WaitsFor}
use Rattle.tile_edges.specs.declared.waiting.TileEdges.{TileEdges}

-- tile t of the list is that of the instance x
pub record IsTileOf (tiling : Tiling) (list : TileList) (t : ℕ) (x : Instance) : Type 0 where
  pub tile : Tile
  pub is : slice_get list.tiles.items t ≡ Some tile
  pub one : InOneTile tiling x (instance_of tile.first)

-- it holds the instance at place i of a walk
pub record Holds (visits : List Visit) (tiling : Tiling) (list : TileList) (t i : ℕ) : Type 0 where
  pub visit : Visit
  pub is : slice_get visits i ≡ Some visit
  pub tile : IsTileOf tiling list t (instance visit)

-- tile u waits for tile t
pub record Waits (flow : Bool) (program : Program) (params : List ℤ) (tiling : Tiling) (list : TileList) (t u : ℕ)
    : Type 0 where
  pub apart : t ≢ u
  pub earlier : ℕ
  pub later : ℕ
  pub cover : WaitsFor flow (walk_of program params) earlier later
  pub first : Holds (walk_of program params) tiling list t earlier
  pub second : Holds (walk_of program params) tiling list u later

-- the pairs that the code's rows stand for: those of tile t are the targets from the t-th start on, up to the next
abbrev pub edges_of : TileEdges → Edges
edges_of e = record {
  count = length e.targets.items;
  start = λ t. get_or e.starts.items t 0;
  target = λ i. get_or e.targets.items i 0;
}

-- of n tiles, there is a pair from tile t to tile u
abbrev pub LeadsOf : ℕ → Edges → ℕ → ℕ → Type 0
LeadsOf n e t u = (i : ℕ) × (i < e.count) × (tile_at e.start n i ≡ t) × (e.target i ≡ u)

-- a row for each tile, in which those that wait for it rise, and of each tile the number of those for which it waits
pub record AreEdgesOf (flow : Bool) (program : Program) (params : List ℤ) (tiling : Tiling) (list : TileList)
    (e : TileEdges) : Type 0 where
  pub rows : AreEdges (length list.tiles.items) (edges_of e)
  pub starts : length e.starts.items ≡ suc (length list.tiles.items)
  pub pairs : (t u : ℕ) → LeadsOf (length list.tiles.items) (edges_of e) t u ↔ Waits flow program params tiling list t u
  pub counted : length e.needs.items ≡ length list.tiles.items
  pub needs : (u : ℕ) → u < length list.tiles.items → get_or e.needs.items u 0 ≡ pairs_to (edges_of e) u

-- there are more than 2^22 pairs: here are 2^22 + 1 of them, no two the same
pub record AreTooMany (flow : Bool) (program : Program) (params : List ℤ) (tiling : Tiling) (list : TileList)
    : Type 0 where
  pub found : List (ℕ × ℕ)
  pub count : length found ≡ 4194305
  pub apart : (i j : ℕ) (pair : ℕ × ℕ) → slice_get found i ≡ Some pair → slice_get found j ≡ Some pair → i ≡ j
  pub each : (t u : ℕ) → In (t, u) found → Waits flow program params tiling list t u
