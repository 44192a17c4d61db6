use Rattle.scop_syntax.proofs.Common.{rules, pos, subst, sym, FitsSigned, w64, w128, to_z-of_z, floor, map_end, map_more, value_of}
use Rattle.loop_tree.specs.Tiling.{TileRow}
use Rattle.tile_edges.proofs.finding.push_coordinates.Goals as goal

pub wide-requires-clause-fits : goal.wide-requires-clause-fits
wide-requires-clause-fits c =
    subst (λ (r : TileRow). FitsSigned w64 (value_of r.form c.args.turns.now)) (sym c.row-item.is)
    (c.requires.fits c.loop-row.row-index c.row-item.result c.loop-row-test.true)

pub loop-row-preserved : goal.loop-row-preserved
loop-row-preserved c =
    let fits : FitsSigned w128 c.wide.result = search rules in
    let pushed = simp to_z-of_z at c.in_ok-push.ensures.items in
    map_more (λ (r : TileRow). floor (value_of r.form c.args.turns.now) (pos c.args.size)) c.args.rows.now
    c.loop-row.row-index c.row-item.result c.wide.result c.loop-row.list.items c.push.new.self.items _
    c.loop-row-test.true c.row-item.is c.wide.ensures pushed c.loop-row.invariant

pub returns : goal.returns
returns c =
    map_end (λ (r : TileRow). floor (value_of r.form c.args.turns.now) (pos c.args.size)) c.args.rows.now
    c.loop-row.row-index c.loop-row.list.items _ c.loop-row-test.false c.loop-row.invariant
