use Rattle.scop_syntax.proofs.Common.{◌∙◌, ap, arith, map, take_all, value_of, wrapped}
use Rattle.tile_edges.proofs.Taken.{map_told}
use Rattle.tile_edges.proofs.walking.put_cells.Goals as goal

pub loop-access-preserved : goal.loop-access-preserved
loop-access-preserved c =
    map_told (λ form. wrapped (value_of form c.args.turns.now)) c.args.row.now.cells.items c.loop-access.access
    c.cell_at.result c.loop-access.cells.items c.push.new.self.items (omega arith) c.cell_at.ensures
    c.loop-access.invariant c.in_ok-push.ensures.items

pub returns : goal.returns
returns c =
    c.loop-access.invariant
    ∙ ap (map (λ form. wrapped (value_of form c.args.turns.now)))
    (take_all c.loop-access.access c.args.row.now.cells.items (omega arith))
