use Rattle.scop_syntax.proofs.Common.{◌∙◌, ap, arith, map, take_all, value_of, wrapped}
use Rattle.tile_edges.proofs.Taken.{map_told}
use Rattle.tile_edges.proofs.walking.put_laid.Goals as goal

pub loop-access-preserved : goal.loop-access-preserved
loop-access-preserved c steps turns laid =
    map_told (λ form. wrapped (value_of form turns)) c.args.row.now.cells.items c.loop-access.access c.cell.result
    c.loop-access.cells.items c.push.new.self.items (omega arith)
    (λ form told. c.cell.ensures steps turns form laid told) (c.loop-access.invariant steps turns laid)
    c.in_ok-push.ensures.items

pub returns : goal.returns
returns c steps turns laid =
    c.loop-access.invariant steps turns laid
    ∙ ap (map (λ form. wrapped (value_of form turns)))
    (take_all c.loop-access.access c.args.row.now.cells.items (omega arith))
