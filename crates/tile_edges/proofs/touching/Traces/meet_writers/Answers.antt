use Rattle.scop_syntax.proofs.Common.{◌∙◌, arith, get_or, refl, subst, take, get_or_default_zero, length-map, take_all}
use Rattle.scop_syntax.proofs.Common.{In, in_at}
use Rattle.tile_edges.specs.steps.Gains.{Gains}
use Rattle.tile_edges.specs.steps.Rows.{rows_in}
use Rattle.tile_edges.specs.steps.Touches.{marks_in}
use Rattle.tile_edges.specs.steps.Traces.{marked, met}
use Rattle.tile_edges.proofs.PutPairs.{gains_join, none_gains}
use Rattle.tile_edges.proofs.Taken.{number_at}
use Rattle.tile_edges.proofs.Visits.{in_met, met_more}
use Rattle.tile_edges.proofs.touching.Traces.meet_writers.Goals as goal

pub loop-cell-init : goal.loop-cell-init
loop-cell-init c = record {
  gains = none_gains c.args.tile (rows_in c.args.pairs.now);
  kept = c.requires.kept;
  long = refl;
}

pub index-requires : goal.index-requires
index-requires c =
    let cells = c.args.cells.now in
    let k = c.loop-cell.cell-index in
    let less = c.requires.room (get_or cells k 0) (in_at cells k 0 (omega arith)) in
    omega (arith, less)

pub add_marked-requires-clause-first : goal.add_marked-requires-clause-first
add_marked-requires-clause-first c t i =
    let cells = c.args.cells.now in
    let k = c.loop-cell.cell-index in
    let marks = marks_in c.args.self.now in
    let less = c.requires.room (get_or cells k 0) (in_at cells k 0 (omega arith)) in
    let mark = c.index.ensures ∙ get_or_default_zero marks (get_or cells k 0) c.index.result.now less in
    let tile = c.requires.tiles t (in_met marks cells k t (omega arith) (subst (λ m. In t (marked m)) mark i)) in
    let long = c.loop-cell.invariant.long in
    omega (arith, tile, long)

pub loop-cell-preserved : goal.loop-cell-preserved
loop-cell-preserved c =
    let cells = c.args.cells.now in
    let k = c.loop-cell.cell-index in
    let marks = marks_in c.args.self.now in
    let less = c.requires.room (get_or cells k 0) (in_at cells k 0 (omega arith)) in
    let mark = c.index.ensures ∙ get_or_default_zero marks (get_or cells k 0) c.index.result.now less in
    let a = rows_in c.args.pairs.now in
    let b = rows_in c.loop-cell.pairs in
    let d = rows_in c.add_marked.new.self in
    let gains = c.in_ok-add_marked.ensures.gains in
    let same = gains.long in
    let long = c.loop-cell.invariant.long in
    let seen = length-map c.loop-cell.pairs.rows.items (λ s. s.keys) in
    let seen_then = length-map c.add_marked.new.self.rows.items (λ s. s.keys) in
    record {
      gains = subst (λ ts. Gains ts c.args.tile a d)
          (met_more marks cells k (get_or cells k 0) c.index.result.now (omega arith) (number_at cells k (omega arith)) mark)
          (gains_join (met marks (take k cells)) (marked c.index.result.now) c.args.tile a b d
          c.loop-cell.invariant.gains gains);
      kept = c.in_ok-add_marked.ensures.kept;
      long = omega (arith, long, same, seen, seen_then);
    }

pub returns-clause-gains : goal.returns-clause-gains
returns-clause-gains c =
    subst (λ cs. Gains (met (marks_in c.args.self.now) cs) c.args.tile (rows_in c.args.pairs.now) (rows_in c.loop-cell.pairs))
    (take_all c.loop-cell.cell-index c.args.cells.now (omega arith)) c.loop-cell.invariant.gains
