use Rattle.scop_syntax.proofs.Common.{arith, refl, length-map, program_of}
use Rattle.loop_tree.specs.TilingView.{tiling_of}
use Rattle.loop_tree.specs.View.{trees_in}
use Rattle.tile_edges.proofs.FoundEdges.{below, can_pass, edges_found, too_many}
use Rattle.tile_edges.proofs.waiting.edges_or_more.Goals as goal

pub pairs_of-requires : goal.pairs_of-requires
pairs_of-requires c =
    can_pass (program_of c.args.kernel.now) c.args.params.now (trees_in c.args.tree.now) (tiling_of c.args.tiling.now)
    c.args.list.now c.args.table.now c.requires.limits c.requires.inside c.requires.table c.requires.order
    c.requires.fits c.requires.tiles

pub rows_of-requires : goal.rows_of-requires
rows_of-requires c u i =
    let less = below c.covers_are_those_of_the_walk.ensures c.cells_have_numbers_of_their_own.ensures.apart
    c.pairs_make_plans.ensures.once c.args.flow (program_of c.args.kernel.now) c.args.params.now
    (trees_in c.args.tree.now) (tiling_of c.args.tiling.now) c.args.list.now c.requires.limits c.requires.inside
    c.requires.tiles 4194304 c.in_ok-pairs.pairs c.in_ok-pairs.ensures u i in
    let seen = length-map c.in_ok-pairs.pairs.rows.items (λ s. s.keys) in
    omega (arith, less, seen)

pub returns-clause-few : goal.returns-clause-few
returns-clause-few c few =
    edges_found c.covers_are_those_of_the_walk.ensures c.cells_have_numbers_of_their_own.ensures.apart
    c.pairs_make_plans.ensures.once c.args.flow (program_of c.args.kernel.now) c.args.params.now
    (trees_in c.args.tree.now) (tiling_of c.args.tiling.now) c.args.list.now c.requires.limits c.requires.inside
    c.requires.tiles 4194304 c.in_ok-pairs.pairs c.in_ok-pairs.ensures c.in_ok-edges.edges c.in_ok-edges.ensures few
    refl

pub returns-clause-many : goal.returns-clause-many
returns-clause-many c many =
    too_many c.covers_are_those_of_the_walk.ensures c.cells_have_numbers_of_their_own.ensures.apart
    c.pairs_make_plans.ensures.once c.args.flow (program_of c.args.kernel.now) c.args.params.now
    (trees_in c.args.tree.now) (tiling_of c.args.tiling.now) c.args.list.now c.requires.limits c.requires.inside
    c.requires.tiles 4194304 c.in_ok-pairs.pairs c.in_ok-pairs.ensures c.in_ok-edges.edges c.in_ok-edges.ensures many
