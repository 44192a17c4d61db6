use Rattle.scop_syntax.proofs.Common.{◌≡◌, ℕ, arith, rules, subst, slice_get_within, instance_of}
use Rattle.loop_tree.specs.TilingView.{tiling_of}
use Rattle.tile_edges.specs.steps.Finding.{Stands}
use Rattle.tile_edges.proofs.FindingTiles.{at_within, found_same, found_tile}
use Rattle.tile_edges.proofs.finding.Finder.find.Goals as goal

pub index-requires : goal.index-requires
index-requires c =
    let less = at_within (tiling_of c.args.tiling.now) c.args.list.now c.args.self.now
    (instance_of c.args.instance.now) c.requires.finder c.requires.there in
    omega (arith, less)

pub returns-then-is-clause-tile : goal.returns-then-is-clause-tile
returns-then-is-clause-tile c =
    found_same (tiling_of c.args.tiling.now) c.args.list.now c.args.self.now (instance_of c.args.instance.now)
    c.set.new.self c.index.result.now c.requires.finder c.requires.there c.in_ok-set.ensures c.index.ensures
    (c.is.ensures.wave c.if-is.true) (c.is.ensures.tile c.if-is.true)

pub search-self-requires : goal.search-self-requires
search-self-requires c =
    let less = at_within (tiling_of c.args.tiling.now) c.args.list.now c.args.self.now
    (instance_of c.args.instance.now) c.requires.finder c.requires.there in
    omega (arith, less)

pub returns-clause-finder : goal.returns-clause-finder
returns-clause-finder c =
    let lent : c.as_slice.result.now ≡ c.args.self.now.places.items = search rules in
    let found = found_tile (tiling_of c.args.tiling.now) c.args.list.now c.args.self.now.places.items c.set.new.self
    (instance_of c.args.instance.now) c.search-self.result c.requires.finder.places c.requires.rise c.in_ok-set.ensures
    (subst (λ ps. (t : ℕ) → Stands ps c.set.new.self t → c.search-self.result ≡ t) lent c.search-self.ensures)
    c.requires.there in
    record {
      places = c.requires.finder.places;
      at = λ some. slice_get_within c.args.list.now.tiles.items c.search-self.result found.tile found.is;
    }

pub returns-clause-tile : goal.returns-clause-tile
returns-clause-tile c =
    let lent : c.as_slice.result.now ≡ c.args.self.now.places.items = search rules in
    found_tile (tiling_of c.args.tiling.now) c.args.list.now c.args.self.now.places.items c.set.new.self
    (instance_of c.args.instance.now) c.search-self.result c.requires.finder.places c.requires.rise c.in_ok-set.ensures
    (subst (λ ps. (t : ℕ) → Stands ps c.set.new.self t → c.search-self.result ≡ t) lent c.search-self.ensures)
    c.requires.there
