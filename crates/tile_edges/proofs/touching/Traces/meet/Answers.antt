use Rattle.scop_syntax.proofs.Common.{◌∙◌, arith, inl, inr, subst, sym, get_or_default_zero, length-map, In}
use Rattle.tile_edges.specs.steps.Gains.{Gains}
use Rattle.tile_edges.specs.steps.Rows.{rows_in}
use Rattle.tile_edges.specs.steps.Touches.{marks_in, readers_in}
use Rattle.tile_edges.specs.steps.Traces.{marked, met_at}
use Rattle.tile_edges.proofs.Visits.{gains_met, met_reads, met_written}
use Rattle.tile_edges.proofs.touching.Traces.meet.Goals as goal

pub meet_writers-requires-clause-tiles : goal.meet_writers-requires-clause-tiles
meet_writers-requires-clause-tiles c t i =
    c.requires.tiles t
    (met_reads c.args.flow (marks_in c.args.self.now) (readers_in c.args.self.now) c.args.cell c.args.cells.now t i)

pub returns-then-flow-clause-gains : goal.returns-then-flow-clause-gains
returns-then-flow-clause-gains c =
    subst (λ flow. Gains (met_at flow (marks_in c.args.self.now) (readers_in c.args.self.now) c.args.cell
    c.args.cells.now) c.args.tile (rows_in c.args.pairs.now) (rows_in c.meet_writers.new.pairs)) (sym c.if-flow.true)
    c.in_ok-meet_writers.ensures.gains

pub add_marked-requires-clause-first : goal.add_marked-requires-clause-first
add_marked-requires-clause-first c t i =
    let marks = marks_in c.args.self.now in
    let mark = c.index.ensures ∙ get_or_default_zero marks c.args.cell c.index.result.now c.requires.written in
    let tile = c.requires.tiles t (met_written c.args.flow marks (readers_in c.args.self.now) c.args.cell
    c.args.cells.now t c.if-flow.false (inl (subst (λ m. In t (marked m)) mark i))) in
    let gains = c.in_ok-meet_writers.ensures.gains in
    let same = gains.long in
    let seen = length-map c.args.pairs.now.rows.items (λ s. s.keys) in
    let seen_then = length-map c.meet_writers.new.pairs.rows.items (λ s. s.keys) in
    omega (arith, tile, same, seen, seen_then)

pub add_all-requires-clause-firsts : goal.add_all-requires-clause-firsts
add_all-requires-clause-firsts c t i =
    let tile = c.requires.tiles t (met_written c.args.flow (marks_in c.args.self.now) (readers_in c.args.self.now)
    c.args.cell c.args.cells.now t c.if-flow.false (inr (subst (λ ts. In t ts) c.readers.ensures i))) in
    let gains = c.in_ok-meet_writers.ensures.gains in
    let marked = c.in_ok-add_marked.ensures.gains in
    let same = gains.long in
    let same_then = marked.long in
    let seen = length-map c.args.pairs.now.rows.items (λ s. s.keys) in
    let seen_then = length-map c.add_marked.new.self.rows.items (λ s. s.keys) in
    omega (arith, tile, same, same_then, seen, seen_then)

pub returns-clause-gains : goal.returns-clause-gains
returns-clause-gains c =
    let marks = marks_in c.args.self.now in
    let readers = readers_in c.args.self.now in
    let mark = c.index.ensures ∙ get_or_default_zero marks c.args.cell c.index.result.now c.requires.written in
    gains_met c.args.flow marks readers c.args.cell c.args.cells.now c.args.tile (rows_in c.args.pairs.now)
    (rows_in c.meet_writers.new.pairs) (rows_in c.add_marked.new.self) (rows_in c.add_all.new.self) c.if-flow.false
    c.in_ok-meet_writers.ensures.gains
    (subst (λ m. Gains (marked m) c.args.tile (rows_in c.meet_writers.new.pairs) (rows_in c.add_marked.new.self)) mark
    c.in_ok-add_marked.ensures.gains)
    (subst (λ ts. Gains ts c.args.tile (rows_in c.add_marked.new.self) (rows_in c.add_all.new.self)) c.readers.ensures
    c.in_ok-add_all.ensures.gains)
