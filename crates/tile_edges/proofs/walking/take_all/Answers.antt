use Rattle.scop_syntax.proofs.Common.{nil_from_length}
use Rattle.tile_edges.proofs.KeptTraces.{has_taken, none_taken}
use Rattle.tile_edges.proofs.walking.take_all.Goals as goal

pub returns-in-None : goal.returns-in-None
returns-in-None c =
    none_taken c.args.flow c.args.cells.now c.args.tile c.args.traces.now c.args.pairs.now
    (nil_from_length c.args.cells.now c.in-None.ensures.cases) c.requires

pub take-requires-clause-cells : goal.take-requires-clause-cells
take-requires-clause-cells c = c.in-Some.ensures.cases.0

pub returns-in_ok-take-in-Some : goal.returns-in_ok-take-in-Some
returns-in_ok-take-in-Some c =
    has_taken c.args.flow c.in-Some.written.now c.in-Some.read.now c.args.cells.now c.args.tile c.args.traces.now
    c.take.new.traces c.args.pairs.now c.take.new.pairs c.in-Some.ensures.cases.0 c.in_ok-take-in-Some.ensures.even
    c.in_ok-take-in-Some.ensures.kept c.in_ok-take-in-Some.ensures.visited c.in_ok-take-in-Some.ensures.gains
