-- A plan of a kernel as plain data.
use Rattle.std.specs.Prelude.{◌≡◌, ℕ, ◌+◌, ◌<◌, ◌≤◌, ⊤, List, [], length, map, get_or, slice_get}
use Rattle.std.specs.Prelude.{Bool, true, false, IsSome, MatchOption, Option, Some, None, is_some}
use Rattle.std.specs.Borrow.{Bor}
use Rattle.scop_syntax.specs.Cells.{Cell, cell_of, reads}
use Rattle.scop_syntax.specs.Execution.{IsCell, IsInside, cell_number, exec, held, layout, total_cells, value_stored_at}
use Rattle.scop_syntax.specs.Limits.{WithinLimits}
use Rattle.scop_syntax.specs.Reductions.{AreMarked}
use Rattle.scop_syntax.specs.Tree.{Program}
use Rattle.scop_syntax.specs.View.{instance_of, program_of}
use Rattle.scop_syntax.specs.Walk.{Instance, Visit, walk_of}
use Rattle.scop_syntax.specs.Writers.{last_writer}
use Rattle.scop_syntax.specs.declared.instance.Instance.{Instance as CodeInstance}
use Rattle.loop_tree.specs.Conditions.{CanWalk}
use Rattle.loop_tree.specs.Plans.{AreInOrder, walked}
use Rattle.loop_tree.specs.Tiling.{IsFlowPlan, IsGoodFor, Tiling}
use Rattle.loop_tree.specs.View.{trees_in}
use Rattle.loop_tree.specs.Walk.{visits}
use Rattle.tile_table.specs.Tables.{IsTableBy}
use Rattle.tile_list.specs.TilesView.{IsTileListOf, waves_of}
use Rattle.tile_list.specs.declared.list.Tile.{Tile}
use Rattle.tile_list.specs.declared.list.TileList.{TileList}
use Rattle.tile_edges.specs.Edges.{AreEdgesOf, edges_of}
use Rattle.tile_edges.specs.declared.waiting.TileEdges.{TileEdges}
use Rattle.tile_events.specs.Copies.{expanded}
use Rattle.tile_events.specs.Deal.{Deal, dealt}
use Rattle.tile_events.specs.Flat.{flat, read_by, value_by, written_by}
use Rattle.tile_events.specs.Plan as events
use Rattle.tile_events.specs.Releases.{released}
use Rattle.tile_core.specs.Expansions.{IsExpansionOf}
use Rattle.tile_core.specs.Marks.{adds_to}
use Rattle.tile_core.specs.Ranks.{place_in, rank_in, sizes_of, start_at}
use Rattle.tile_core.specs.declared.expansion.Expansion.{Expansion}
use Rattle.tile_core.specs.declared.plan.Plan.{Plan}

-- the kernel's program
abbrev pub program_in : Plan → Program
program_in plan = program_of plan.kernel.now

-- its walk
abbrev pub walk_in : Plan → List Visit
walk_in plan = walk_of (program_in plan) plan.params.now

-- the instances of the walk
abbrev pub places_in : Plan → List Instance
places_in plan = walked (program_in plan) plan.params.now

-- the instances that the tree visits, in turn
abbrev pub scan_in : Plan → List Instance
scan_in plan = visits (trees_in plan.tree.now) plan.params.now

-- the place of an instance in the walk
abbrev pub place_of : Plan → CodeInstance → ℕ
place_of plan i = place_in (places_in plan) (instance_of i)

-- the walk's places in the order of the tree's visits, cut into the tiles
abbrev pub deal_of : Plan → Deal
deal_of plan = record {
  places = length (walk_in plan);
  tiles = length plan.list.now.tiles.items;
  rank = λ j. rank_in (scan_in plan) (slice_get (places_in plan) j);
  at = λ r. rank_in (places_in plan) (slice_get (scan_in plan) r);
  start = start_at (sizes_of plan.list.now.tiles.items);
  wave = λ t. get_or (waves_of plan.list.now.tiles.items) t 0;
}

-- the extents of the kernel's arrays
abbrev pub extents_in : Plan → List (List ℕ)
extents_in plan = layout (program_in plan) plan.params.now

-- the places of the walk as a plan by waves, over these cells, those of all arrays one behind another: cells of marked
-- arrays are added to
abbrev pub plain_plan : Plan → List ℕ → events.Plan
plain_plan plan cells =
    dealt (deal_of plan) (total_cells (extents_in plan)) (adds_to (extents_in plan) plan.marked.now)
    (λ j. written_by (extents_in plan) (slice_get (walk_in plan) j))
    (λ j. read_by (extents_in plan) plan.marked.now (slice_get (walk_in plan) j))
    (λ j. value_by plan.marked.now (slice_get (walk_in plan) j)) (λ c. get_or cells c 0)

-- what of it does not hang on the cells
abbrev pub plain_shape : Plan → events.Plan
plain_shape plan = plain_plan plan []

-- of each read of a visit at place j the last place before that writes its cell; none where there is no visit
abbrev pub sources_by : List Visit → ℕ → Option Visit → List (Option ℕ)
sources_by visits j None = []
sources_by visits j (Some v) = map (λ access. last_writer visits j (cell_of access v.point)) (reads v.body)

-- so for the places of the walk
abbrev pub sources_in : Plan → ℕ → List (Option ℕ)
sources_in plan j = sources_by (walk_in plan) j (slice_get (walk_in plan) j)

-- where a plan has an expansion: each place writes a copy of its own, and reads those of its sources
abbrev pub with_copies : Option (Bor Expansion) → (ℕ → List (Option ℕ)) → events.Plan → events.Plan
with_copies None sources p = p
with_copies (Some e) sources p = expanded p sources

-- the places of the walk as a plan by waves, over these cells, with its copies behind them where it has an expansion:
-- `with_copies plan.expansion (sources_in plan) (plain_plan plan cells)`, field by field
abbrev pub walk_plan : Plan → List ℕ → events.Plan
walk_plan plan cells = record (plain_plan plan cells) {
  cells = (with_copies plan.expansion (sources_in plan) (plain_shape plan)).cells;
  written = (with_copies plan.expansion (sources_in plan) (plain_shape plan)).written;
  read = (with_copies plan.expansion (sources_in plan) (plain_shape plan)).read;
  initial = (with_copies plan.expansion (sources_in plan) (plain_plan plan cells)).initial;
}

-- what of it does not hang on the cells
abbrev pub walk_shape : Plan → events.Plan
walk_shape plan = walk_plan plan []

-- where a plan has pairs of tiles: with a counter for each tile, and the releases
abbrev pub gated : Option (Bor TileEdges) → events.Plan → events.Plan
gated None p = p
gated (Some e) p = released p (edges_of e.now)

-- the plan with its releases, where tiles are released one by one, but for what the cells hold at first
abbrev pub shape_of : Plan → events.Plan
shape_of plan = gated plan.edges (walk_shape plan)

-- over these cells, `gated plan.edges (walk_plan plan cells)`: all but the cells at first is that of the shape
abbrev pub plan_of : Plan → List ℕ → events.Plan
plan_of plan cells = record (shape_of plan) { initial = (gated plan.edges (walk_plan plan cells)).initial }

-- its tiles are released one by one
abbrev pub HasEdges : Plan → Type 0
HasEdges plan = IsSome plan.edges

-- each instance has a copy of its own
abbrev pub is_expanded : Plan → Bool
is_expanded plan = is_some plan.expansion

-- no tile has so many instances that they and all pairs could not be counted in 64 bits
abbrev pub HaveRoom : TileList → TileEdges → Type 0
HaveRoom list e =
    (t : ℕ) (tile : Tile) → slice_get list.tiles.items t ≡ Some tile
    → tile.size + length e.targets.items < 18446744073709551616

-- behind the cells of all arrays stand copies and counters alone, which are 0
abbrev pub HasRest : Plan → List ℕ → Type 0
HasRest plan cells = (c : ℕ) → (plain_shape plan).cells ≤ c → get_or cells c 0 ≡ 0

-- a row holds these contents, one array behind another, and 0 behind them
abbrev pub HoldsContents : List (List ℕ) → List ℕ → Type 0
HoldsContents contents row = (c : ℕ) → get_or row c 0 ≡ get_or (flat contents) c 0

-- each cell of each array is as execution of these contents leaves it
abbrev pub AreHeld : Plan → List (List ℕ) → List ℕ → Type 0
AreHeld plan contents cells = (c : Cell) → IsCell (extents_in plan) c
    → get_or cells (cell_number (extents_in plan) c) 0
    ≡ held (extents_in plan) (exec (program_in plan) plan.params.now contents) c

-- each cell of each array is as it was
abbrev pub AreKept : Plan → List (List ℕ) → List ℕ → Type 0
AreKept plan contents cells = (c : Cell) → IsCell (extents_in plan) c
    → get_or cells (cell_number (extents_in plan) c) 0 ≡ held (extents_in plan) contents c

-- behind the arrays stands what each place of the walk stores in that execution
abbrev pub AreCopies : Plan → List (List ℕ) → List ℕ → Type 0
AreCopies plan contents cells = (j : ℕ) → j < length (walk_in plan)
    → get_or cells ((plain_shape plan).cells + j) 0 ≡ value_stored_at (extents_in plan) contents (walk_in plan) j

-- what a run over these contents leaves: the arrays of execution, or with an expansion the arrays as they were, and the
-- copies
pub record HoldsResults (plan : Plan) (contents : List (List ℕ)) (cells : List ℕ) : Type 0 where
  pub arrays : is_expanded plan ≡ false → AreHeld plan contents cells
  pub kept : is_expanded plan ≡ true → AreKept plan contents cells
  pub copies : is_expanded plan ≡ true → AreCopies plan contents cells

-- the order that a plan has to keep: of what conflicts on an array that is not marked; with an expansion, of reads behind
-- their last writers alone
abbrev pub KeepsOrder : Plan → Tiling → Type 0
KeepsOrder plan tiling =
    MatchOption plan.expansion (IsGoodFor (program_in plan) plan.params.now plan.marked.now tiling)
    (λ e. IsFlowPlan (program_in plan) plan.params.now tiling)

-- a kernel within the limits, whose subscripts are inside; arrays of it that are only added to; the table of its
-- statements; a tree that visits each walked instance once, in the order of a plan that keeps what it has to; the tiles of
-- its visits, and exactly the pairs of these of which one waits for the other, where they are released one by one; where
-- each instance has a copy of its own, the sources of the walk's reads and the places of the tree's visits. With pairs or
-- copies no array is marked
pub record IsPlan (plan : Plan) : Type 0 where
  pub tiling : Tiling
  pub limits : WithinLimits (program_in plan) plan.params.now
  pub inside : IsInside (program_in plan) plan.params.now
  pub marks : AreMarked plan.marked.now (walk_in plan)
  pub table : IsTableBy plan.marked.now (program_in plan) plan.params.now plan.table.now
  pub walk : CanWalk (trees_in plan.tree.now) plan.params.now []
  pub order : AreInOrder (program_in plan) plan.params.now tiling (scan_in plan)
  pub good : KeepsOrder plan tiling
  pub tiles : IsTileListOf (trees_in plan.tree.now) plan.params.now tiling plan.list.now
  pub edges : MatchOption plan.edges ⊤
      (λ e. AreEdgesOf (is_expanded plan) (program_in plan) plan.params.now tiling plan.list.now e.now)
  pub room : MatchOption plan.edges ⊤ (λ e. HaveRoom plan.list.now e.now)
  pub alone : MatchOption plan.edges ⊤ (λ e. plan.marked.now ≡ [])
  pub copies : MatchOption plan.expansion ⊤ (λ e. IsExpansionOf (program_in plan) plan.params.now
      (trees_in plan.tree.now) plan.list.now e.now)
  pub unmarked : MatchOption plan.expansion ⊤ (λ e. plan.marked.now ≡ [])
