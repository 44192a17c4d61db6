-- The tile of a place of the walk is that of its instance.
use Rattle.scop_syntax.proofs.Common.{◌≡◌, ◌∙◌, ℕ, ◌+◌, [], Some, ap, subst, sym, arith, slice_get, option_map}
use Rattle.scop_syntax.proofs.Common.{slice_get-map, slice_get_within, instance_of, Visit, instance, there_is}
use Rattle.tile_edges.specs.Edges.{IsTileOf}
use Rattle.tile_core.specs.Plans.{IsPlan, deal_of, places_in, program_in, scan_in, walk_in, walk_shape}
use Rattle.tile_core.specs.declared.plan.Plan.{Plan}
use Rattle.tile_core.proofs.Cuts.{IsInTile}
use Rattle.tile_core.proofs.Plans.{PlanLaws, list_cut, once, stands_in}
use Rattle.tile_core.proofs.Scans.{rank_there}
use Rattle.tile_core.proofs.Workers.{first_instance}

pub tile_held : (laws : PlanLaws) (plan : Plan) (is : IsPlan plan) (j : ℕ) (v : Visit)
    → slice_get (walk_in plan) j ≡ Some v → IsTileOf is.tiling plan.list.now ((walk_shape plan).tile j) (instance v)
tile_held laws plan is j v at =
    let x = instance v in
    let d = deal_of plan in
    let tiles = plan.list.now.tiles.items in
    let cut = list_cut laws plan is in
    let there : slice_get (places_in plan) j ≡ Some x =
    slice_get-map instance (walk_in plan) j ∙ ap (option_map instance) at in
    let a = cut.found (d.rank j) x (rank_there (program_in plan) plan.params.now is.tiling (scan_in plan)
    (once laws plan is) is.order j x there) in
    let t = a.0 in
    let from = a.1.from in
    let to = a.1.to in
    let stands = (stands_in laws plan is [] j t x (slice_get_within (walk_in plan) j v at) a.1).0 in
    let tile = there_is tiles t a.1.tile in
    let first : IsInTile (scan_in plan) d.tiles d.start t (d.start t + 0) (instance_of tile.0.first) = record {
      tile = a.1.tile;
      from = omega arith;
      to = omega (arith, from, to);
      there = sym (first_instance laws.tiles.at plan t tile.0 is tile.1);
    } in
    subst (λ u. IsTileOf is.tiling plan.list.now u x) (sym stands) record {
      tile = tile.0;
      is = tile.1;
      one = cut.one t (d.rank j) (d.start t + 0) x (instance_of tile.0.first) a.1 first;
    }
