-- From the first instance to the whole list.
use Rattle.scop_syntax.proofs.Common.{◌≡◌, ℕ, ℤ, List, [], ◌∷◌, ◌++◌, inl, inr, refl, ap, subst, sym, map-append, In}
use Rattle.scop_syntax.proofs.Common.{instance_of, Instance, in_back, in_front}
use Rattle.std.proofs.lemmas.List.{append_assoc}
use Rattle.scop_syntax.specs.declared.instance.Instance.{Instance as CodeInstance}
use Rattle.loop_tree.specs.Braids.{left_of_braid}
use Rattle.loop_tree.specs.Spot.{rest_of}
use Rattle.loop_tree.specs.SpotView.{marks_in, to_come}
use Rattle.loop_tree.specs.Stretches.{left_of}
use Rattle.loop_tree.specs.Tiling.{Tiling}
use Rattle.loop_tree.specs.Tree.{Trees}
use Rattle.loop_tree.specs.Walk.{visits}
use Rattle.loop_tree.specs.declared.spot.Spot.{Spot}
use Rattle.tile_list.specs.Tiles.{AreOffsets, AreTiles, AreWaves, CanTile, RiseByTile, joined}
use Rattle.tile_list.specs.TilesView.{IsTileListOf, firsts_of, waves_of}
use Rattle.tile_list.specs.steps.Cutting.{AreTilesOf, Begins, IsCut, IsCutTo, IsListed, IsNewTile, Takes}
use Rattle.tile_list.specs.steps.Keys.{IsKeyOf}
use Rattle.tile_list.specs.steps.Placing.{HasCome}
use Rattle.tile_list.specs.steps.Stretching.{AllFit}
use Rattle.tile_list.specs.declared.cutting.Cut.{Cut}
use Rattle.tile_list.specs.declared.list.Tile.{Tile}
use Rattle.tile_list.specs.declared.list.TileList.{TileList}
use Rattle.tile_list.specs.declared.place.Front.{Front}
use Rattle.tile_list.proofs.ListedTiles.{no_tiles, tile_more}
use Rattle.tile_list.proofs.Offset.{offsets_are, waves_rise}
use Rattle.tile_list.proofs.Parts.{begun, ended, none_cut}
use Rattle.tile_list.proofs.TakenInstances.{tile_begun}

-- the first instance
begun_cut : (tiling : Tiling) (first : CodeInstance) (front : Front) (spot : Spot) (cut : Cut)
    → IsKeyOf tiling (instance_of first) cut.key → IsNewTile first front spot 0 cut.current → cut.tiles.items ≡ []
    → (ts : Trees) (params : List ℤ) → HasCome ts params front spot
    → visits ts params ≡ instance_of first ∷ to_come ts params spot
    → IsCutTo ts params tiling (to_come ts params spot) cut
begun_cut tiling first front spot cut key tile none ts params come all =
    let x = instance_of first in
    let rest = to_come ts params spot in
    let same : instance_of cut.current.first ≡ x = ap instance_of tile.first_is in
    record {
      closed = [];
      more = [];
      parts = subst (λ z. IsCut tiling (visits ts params) [] z [] rest) (sym same)
          (subst (λ (zs : List Instance). IsCut tiling zs [] x [] rest) (sym all) (begun tiling x rest));
      tiles = subst (AreTilesOf ts params []) (sym none) (no_tiles ts params);
      last = tile_begun ts params [] first front spot 0 cut.current tile come (sym all);
      waves = subst (λ (us : List Tile). AreWaves tiling (firsts_of us ++ instance_of cut.current.first ∷ [])
          (waves_of us ++ cut.current.wave ∷ [])) (sym none) (tile.wave_is, tt);
      key = subst (λ z. IsKeyOf tiling z cut.key) (sym same) key;
    }

-- it begins the cut
pub begins : (tiling : Tiling) (first : CodeInstance) (front : Front) (spot : Spot) (cut : Cut)
    → IsKeyOf tiling (instance_of first) cut.key → IsNewTile first front spot 0 cut.current → cut.tiles.items ≡ []
    → Begins tiling (instance_of first) front spot cut
begins tiling first front spot cut key tile none =
    record {
      cut_is = begun_cut tiling first front spot cut key tile none;
      key = key;
    }

-- what is still to come is visited
pub rest_visited : (ts : Trees) (params : List ℤ) (tiling : Tiling) (rest : List Instance) (cut : Cut)
    → IsCutTo ts params tiling rest cut → (x : Instance) → In x rest → In x (visits ts params)
rest_visited ts params tiling rest cut is x h =
    subst (λ (zs : List Instance). In x zs) is.parts.all
    (in_back x (joined is.closed) (instance_of cut.current.first ∷ (is.more ++ rest)) (inr (in_back x is.more rest h)))

-- so is an instance that is taken
pub taken_visited : (ts : Trees) (params : List ℤ) (tiling : Tiling) (x : Instance) (all rest : List Instance)
    (cut : Cut) → all ≡ x ∷ rest → IsCutTo ts params tiling all cut → In x (visits ts params)
taken_visited ts params tiling x all rest cut e is =
    rest_visited ts params tiling all cut is x (subst (λ (zs : List Instance). In x zs) (sym e) (inl refl))

-- the next one is taken
pub taken_next : (ts : Trees) (params : List ℤ) (tiling : Tiling) (x : Instance) (all : List Instance) (front : Front)
    (spot : Spot) (old new : Cut) → all ≡ x ∷ to_come ts params spot → RiseByTile tiling (visits ts params)
    → HasCome ts params front spot → Takes tiling x front spot old new → IsCutTo ts params tiling all old
    → IsCutTo ts params tiling (to_come ts params spot) new
taken_next ts params tiling x all front spot old new e rise come takes is =
    takes.cut ts params rise come (subst (λ (zs : List Instance). IsCutTo ts params tiling zs old) e is)

-- the rows fit at what is left of a stretch and a braid
pub left_fits : (ts : Trees) (params : List ℤ) (tiling : Tiling) (spot : Spot) (cut : Cut)
    → CanTile tiling (visits ts params) → IsCutTo ts params tiling (to_come ts params spot) cut
    → AllFit tiling (left_of spot.stretch ++ left_of_braid spot.braid)
left_fits ts params tiling spot cut can is x h =
    let rest = rest_of ts (marks_in spot) params [] in
    let all = append_assoc (left_of spot.stretch) (left_of_braid spot.braid) rest in
    can.rows x (rest_visited ts params tiling (to_come ts params spot) cut is x
    (subst (λ (zs : List Instance). In x zs) all
    (in_front x (left_of spot.stretch ++ left_of_braid spot.braid) rest h)))

-- tiles with their offsets
made_list : (ts : Trees) (params : List ℤ) (tiling : Tiling) (parts : List (List Instance)) (tiles : List Tile)
    (list : TileList) → AreTiles tiling (visits ts params) parts → AreTilesOf ts params parts tiles
    → AreWaves tiling (firsts_of tiles) (waves_of tiles) → IsListed tiles list → IsTileListOf ts params tiling list
made_list ts params tiling parts tiles list cut are waves is =
    let here : AreTilesOf ts params parts list.tiles.items =
    subst (AreTilesOf ts params parts) (sym is.tiles_are) are in
    let numbers : waves_of list.tiles.items ≡ waves_of tiles = ap waves_of is.tiles_are in
    record {
      parts = parts;
      cut = cut;
      count = here.count;
      tiles = here.are;
      waves = subst (λ (us : List Tile). AreWaves tiling (firsts_of us) (waves_of us)) (sym is.tiles_are) waves;
      offsets = subst (λ (ns : List ℕ). AreOffsets ns list.offsets.items) (sym numbers)
          (subst (AreOffsets (waves_of tiles)) (sym is.offsets_are)
          (offsets_are (waves_of tiles) (waves_rise tiling (firsts_of tiles) (waves_of tiles) waves)));
    }

pub none_listed : (ts : Trees) (params : List ℤ) (tiling : Tiling) (list : TileList) → visits ts params ≡ []
    → (tiles : List Tile) → tiles ≡ [] → IsListed tiles list → IsTileListOf ts params tiling list
none_listed ts params tiling list none tiles e is =
    made_list ts params tiling [] tiles list
    (subst (λ (zs : List Instance). AreTiles tiling zs []) (sym none) (none_cut tiling))
    (subst (AreTilesOf ts params []) (sym e) (no_tiles ts params))
    (subst (λ (us : List Tile). AreWaves tiling (firsts_of us) (waves_of us)) (sym e) tt) is

pub all_listed : (ts : Trees) (params : List ℤ) (tiling : Tiling) (cut : Cut) (list : TileList)
    → IsCutTo ts params tiling [] cut → (tiles : List Tile) → tiles ≡ cut.tiles.items ++ cut.current ∷ []
    → IsListed tiles list → IsTileListOf ts params tiling list
all_listed ts params tiling cut list done tiles e is =
    let x = instance_of cut.current.first in
    let us = cut.tiles.items ++ cut.current ∷ [] in
    let parts = done.closed ++ (x ∷ done.more) ∷ [] in
    let firsts = map-append (λ (t : Tile). instance_of t.first) cut.tiles.items (cut.current ∷ []) in
    let waves = map-append (λ (t : Tile). t.wave) cut.tiles.items (cut.current ∷ []) in
    made_list ts params tiling parts tiles list (ended tiling (visits ts params) done.closed x done.more done.parts)
    (subst (AreTilesOf ts params parts) (sym e)
    (tile_more ts params done.closed cut.tiles.items (x ∷ done.more) cut.current done.tiles done.last))
    (subst (λ (vs : List Tile). AreWaves tiling (firsts_of vs) (waves_of vs)) (sym e)
    (subst (λ (zs : List Instance). AreWaves tiling zs (waves_of us)) (sym firsts)
    (subst (AreWaves tiling (firsts_of cut.tiles.items ++ x ∷ [])) (sym waves) done.waves))) is
