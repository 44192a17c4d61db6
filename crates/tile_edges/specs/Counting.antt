-- How many pairs of tiles there are of which the second waits for the first. A pair is two tiles, each told by its wave
-- and its coordinates; it counts once, however many places of the second wait for places of the first.
use Rattle.std.specs.Prelude.{◌≡◌, ◌≢◌, ℕ, ◌≤◌, ℤ, Bool, true, false, List, length, slice_get, Option, Some, None}
use Rattle.scop_syntax.specs.Members.{In}
use Rattle.scop_syntax.specs.Walk.{Visit, instance}
use Rattle.loop_tree.specs.Tiling.{Tiling, tile_of, wave_of}
use Rattle.tile_edges.specs.Waiting.{WaitsFor}

-- a tile by its wave and its coordinates
abbrev pub TileName : Type 0
TileName = List ℤ × List ℤ

-- this tile holds the instance at place i of a walk
pub record IsTileAt (tiling : Tiling) (visits : List Visit) (i : ℕ) (tile : TileName) : Type 0 where
  pub visit : Visit
  pub is : slice_get visits i ≡ Some visit
  pub named : (wave_of tiling (instance visit), tile_of tiling (instance visit)) ≡ tile

-- the second of two tiles waits for the first, another one: some place of the second waits for one of the first
pub record IsEdge (flow : Bool) (tiling : Tiling) (visits : List Visit) (first second : TileName) : Type 0 where
  pub apart : first ≢ second
  pub earlier : ℕ
  pub later : ℕ
  pub cover : WaitsFor flow visits earlier later
  pub holds_earlier : IsTileAt tiling visits earlier first
  pub holds_later : IsTileAt tiling visits later second

-- such pairs of tiles, no two the same
pub record AreEdgesBetween (flow : Bool) (tiling : Tiling) (visits : List Visit) (pairs : List (TileName × TileName))
    : Type 0 where
  pub apart : (i j : ℕ) (pair : TileName × TileName) → slice_get pairs i ≡ Some pair → slice_get pairs j ≡ Some pair
      → i ≡ j
  pub each : (first second : TileName) → In (first, second) pairs → IsEdge flow tiling visits first second

-- there are exactly so many
pub record HasEdges (flow : Bool) (tiling : Tiling) (visits : List Visit) (n : ℕ) : Type 0 where
  pub pairs : List (TileName × TileName)
  pub count : length pairs ≡ n
  pub are : AreEdgesBetween flow tiling visits pairs
  pub all : (first second : TileName) → IsEdge flow tiling visits first second → In (first, second) pairs

-- there are more than 2^22: here are 2^22 + 1 of them
pub record HasMoreEdges (flow : Bool) (tiling : Tiling) (visits : List Visit) : Type 0 where
  pub pairs : List (TileName × TileName)
  pub count : length pairs ≡ 4194305
  pub are : AreEdgesBetween flow tiling visits pairs

-- what a run tells of its pairs: where tiles are to be released one by one, how many there are, or that there are too
-- many of them; else nothing
abbrev pub IsReleaseOf : Bool → Bool → Tiling → List Visit → Option ℕ → Type 0
IsReleaseOf false flow tiling visits told = told ≡ None
IsReleaseOf true flow tiling visits (Some n) = HasEdges flow tiling visits n × (n ≤ 4194304)
IsReleaseOf true flow tiling visits None = HasMoreEdges flow tiling visits
