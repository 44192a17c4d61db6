-- A pass over the places of a walk.
use Rattle.std.specs.Prelude.{◌≡◌, ℕ, ◌<◌, ◌≤◌, ℤ, Bool, false, List, [], ◌∷◌, length, map, slice_get, drop}
use Rattle.whole_numbers.specs.Affine.{value_of}
use Rattle.scop_syntax.specs.Execution.{layout, total_cells}
use Rattle.scop_syntax.specs.Tree.{Program}
use Rattle.scop_syntax.specs.Values.{wrapped}
use Rattle.scop_syntax.specs.Walk.{Instance, instance, walk_of}
use Rattle.loop_tree.specs.Tiling.{Tiling}
use Rattle.tile_table.specs.declared.table.Row.{Row}
use Rattle.tile_list.specs.declared.list.TileList.{TileList}
use Rattle.tile_events.specs.Flat.{read_by, value_by, written_by}
use Rattle.tile_events.specs.Plan.{Plan, waves}
use Rattle.scop_syntax.specs.Execution.{IsInside}
use Rattle.scop_syntax.specs.Limits.{WithinLimits}
use Rattle.scop_syntax.specs.Members.{In}
use Rattle.tile_table.specs.Tables.{IsTableOf}
use Rattle.tile_table.specs.declared.table.Table.{Table}
use Rattle.tile_list.specs.Tiles.{RowsFit}
use Rattle.tile_edges.specs.Edges.{Holds, IsTileOf}
use Rattle.tile_edges.specs.steps.Finding.{FirstsFit, HasTileOf, TilesRise}
use Rattle.tile_edges.specs.steps.Gains.{AreRising, Gains}
use Rattle.tile_edges.specs.steps.Rows.{AreKept, joined, rows_in}
use Rattle.tile_edges.specs.steps.Touches.{AreEven, marks_in, readers_in}
use Rattle.tile_edges.specs.steps.Traces.{ArePairs, AreTraces, HasVisited, met_at}
use Rattle.tile_edges.specs.declared.pairing.Pairs.{Pairs}
use Rattle.tile_edges.specs.declared.touching.Traces.{Traces}

-- what the places of a program's walk touch, as a plan of no tiles
abbrev pub touched : Program → List ℤ → Plan
touched program params = record {
  places = length (walk_of program params);
  cells = total_cells (layout program params);
  tiles = 0;
  written = λ j. written_by (layout program params) (slice_get (walk_of program params) j);
  read = λ j. read_by (layout program params) [] (slice_get (walk_of program params) j);
  adds = λ c. false;
  value = λ j. value_by [] (slice_get (walk_of program params) j);
  initial = λ c. 0;
  tile = λ j. 0;
  position = λ j. j;
  size = λ t. 0;
  place = λ t k. k;
  wave = λ t. 0;
  offset = λ w. 0;
  gate = waves;
}

-- the numbers of the cells that a row's accesses touch at these turns
abbrev pub cells_at : Row → List ℤ → List ℕ
cells_at row turns = map (λ form. wrapped (value_of form turns)) row.cells.items

-- which tile holds which place
abbrev pub held_by : Program → List ℤ → Tiling → TileList → ℕ → ℕ → Type 0
held_by program params tiling list t i = Holds (walk_of program params) tiling list t i

-- the pass has gone over the first n places
pub record HasPassed (flow : Bool) (program : Program) (params : List ℤ) (tiling : Tiling) (list : TileList) (n : ℕ)
    (kept : Traces) (found : Pairs) : Type 0 where
  pub even : AreEven kept
  pub traces : AreTraces flow (held_by program params tiling list) (touched program params) n (marks_in kept)
      (readers_in kept)
  pub pairs : ArePairs flow (held_by program params tiling list) (touched program params) n (rows_in found)
  pub rises : AreRising (rows_in found)
  pub kept_is : AreKept found
  pub long : length found.rows.items ≡ length list.tiles.items

-- these instances are left of the walk
pub record IsOnItsWay (flow : Bool) (program : Program) (params : List ℤ) (tiling : Tiling) (list : TileList)
    (rest : List Instance) (kept : Traces) (found : Pairs) : Type 0 where
  pub done : ℕ
  pub within : done ≤ length (walk_of program params)
  pub left : rest ≡ drop done (map instance (walk_of program params))
  pub passed : HasPassed flow program params tiling list done kept found

-- the pairs are those that a pass finds, all of them where they are no more than that
pub record AreFound (flow : Bool) (program : Program) (params : List ℤ) (tiling : Tiling) (list : TileList) (most : ℕ)
    (found : Pairs) : Type 0 where
  pub done : ℕ
  pub within : done ≤ length (walk_of program params)
  pub all : found.count ≤ most → done ≡ length (walk_of program params)
  pub pairs : ArePairs flow (held_by program params tiling list) (touched program params) done (rows_in found)
  pub rises : AreRising (rows_in found)
  pub count : found.count ≡ length (joined (rows_in found))
  pub long : length found.rows.items ≡ length list.tiles.items

-- what a pass asks of a kernel, its table and the tiles of a plan
pub record CanPass (program : Program) (params : List ℤ) (tiling : Tiling) (list : TileList) (table : Table) : Type 0 where
  pub limits : WithinLimits program params
  pub inside : IsInside program params
  pub told : IsTableOf program params table
  pub fits : (x : Instance) → In x (map instance (walk_of program params)) → RowsFit tiling x
  pub firsts : FirstsFit tiling list.tiles.items
  pub rise : TilesRise tiling list.tiles.items
  pub there : (x : Instance) → In x (map instance (walk_of program params)) → HasTileOf tiling list x

-- a place that touches these cells can be taken, and has been, the first by writing it
pub record CanTake (flow : Bool) (cells : List ℕ) (kept : Traces) (found : Pairs) : Type 0 where
  pub even : AreEven kept
  pub kept_is : AreKept found
  pub tiles : (w : ℕ) (rs : List ℕ) → cells ≡ w ∷ rs → (t : ℕ)
      → In t (met_at flow (marks_in kept) (readers_in kept) w rs) → t < length found.rows.items

pub record HasTaken (flow : Bool) (cells : List ℕ) (u : ℕ) (kept : Traces) (found : Pairs) (kept_then : Traces)
    (found_then : Pairs) : Type 0 where
  pub even : AreEven kept_then
  pub kept_is : AreKept found_then
  pub visited : (w : ℕ) (rs : List ℕ) → cells ≡ w ∷ rs
      → HasVisited flow u w rs (marks_in kept) (readers_in kept) (marks_in kept_then) (readers_in kept_then)
  pub gains : (w : ℕ) (rs : List ℕ) → cells ≡ w ∷ rs
      → Gains (met_at flow (marks_in kept) (readers_in kept) w rs) u (rows_in found) (rows_in found_then)

-- the tile of an instance has taken these cells
pub record IsTaken (flow : Bool) (tiling : Tiling) (list : TileList) (x : Instance) (cells : List ℕ) (kept : Traces)
    (found : Pairs) (kept_then : Traces) (found_then : Pairs) : Type 0 where
  pub tile : ℕ
  pub is : IsTileOf tiling list tile x
  pub taken : HasTaken flow cells tile kept found kept_then found_then
