use Rattle.scop_syntax.proofs.Common.{◌≡◌, ◌∙◌, ap, rules, subst, sym, instance_of}
use Rattle.loop_tree.specs.TilingView.{tiling_of}
use Rattle.tile_edges.specs.steps.Walks.{CanTake, cells_at}
use Rattle.tile_edges.proofs.PassedPlaces.{is_taken}
use Rattle.tile_edges.proofs.walking.Pass.pass.Goals as goal

pub take_all-requires : goal.take_all-requires
take_all-requires c =
    let row = c.row.result.now in
    let cells : c.as_slice.result.now ≡ cells_at row c.turns.result.now = search (rules, c.in_ok-put_cells.ensures) in
    subst (λ cs. CanTake c.args.flow cs c.args.self.now.traces c.args.self.now.pairs)
    (sym (cells ∙ ap (cells_at row) c.turns.ensures)) (c.requires.take row c.row.ensures)

pub returns-clause-taken : goal.returns-clause-taken
returns-clause-taken c row told =
    let given = c.row.result.now in
    let cells : c.as_slice.result.now ≡ cells_at given c.turns.result.now = search (rules, c.in_ok-put_cells.ensures) in
    is_taken c.args.flow (tiling_of c.args.tiling.now) c.args.list.now (instance_of c.args.instance.now)
    c.args.self.now.traces c.take_all.new.traces c.args.self.now.pairs c.take_all.new.pairs row given
    c.as_slice.result.now c.turns.result.now c.in_ok-tile.tile c.in_ok-tile.ensures.tile cells c.turns.ensures
    (sym told ∙ c.row.ensures) c.in_ok-take_all.ensures
