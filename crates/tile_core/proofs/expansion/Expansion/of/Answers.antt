use Rattle.scop_syntax.proofs.Common.{◌≡◌, ◌<◌, ℕ, List, Some, arith, length, rules, subst, slice_get, length-map}
use Rattle.scop_syntax.proofs.Common.{program_of, instance, walk_of}
use Rattle.tile_list.specs.declared.list.Tile.{Tile}
use Rattle.tile_core.specs.Ranks.{sizes_of, start_at}
use Rattle.tile_core.proofs.expansion.Expansion.of.Goals as goal

pub places_of_visits-requires-clause-few : goal.places_of_visits-requires-clause-few
places_of_visits-requires-clause-few c =
    let few = c.requires.sources.few in
    let many = length-map (walk_of (program_of c.args.kernel.now) c.args.params.now) instance in
    omega (arith, few, many)

pub returns : goal.returns
returns c =
    let lent : c.as_slice.result.now ≡ c.args.list.now.tiles.items = search rules in
    let starts = c.in_ok-starts.starts.items in record {
      cells = c.requires.cells;
      sources = c.requires.sources;
      places = c.in_ok-places.ensures;
      starts = subst (λ (ts : List Tile). (t : ℕ) → t < length ts
          → slice_get starts t ≡ Some (start_at (sizes_of ts) t)) lent c.in_ok-starts.ensures;
    }
