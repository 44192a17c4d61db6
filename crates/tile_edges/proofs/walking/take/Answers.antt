use Rattle.scop_syntax.proofs.Common.{inl, inr, refl, subst, sym, In}
use Rattle.tile_edges.specs.steps.Gains.{Gains}
use Rattle.tile_edges.specs.steps.Rows.{rows_in}
use Rattle.tile_edges.specs.steps.Touches.{marks_in, readers_in}
use Rattle.tile_edges.proofs.KeptTraces.{met_at_same, visited_same}
use Rattle.tile_edges.proofs.walking.take.Goals as goal

pub meet-requires-clause-room : goal.meet-requires-clause-room
meet-requires-clause-room c d i =
    c.in_ok-reach_all.ensures.room d (subst (λ cs. In d cs) (sym c.requires.cells) (inr i))

pub meet-requires-clause-written : goal.meet-requires-clause-written
meet-requires-clause-written c =
    c.in_ok-reach_all.ensures.room c.args.written
    (subst (λ cs. In c.args.written cs) (sym c.requires.cells) (inl refl))

pub meet-requires-clause-tiles : goal.meet-requires-clause-tiles
meet-requires-clause-tiles c t i =
    c.requires.can.tiles c.args.written c.args.read.now c.requires.cells t
    (subst (λ ts. In t ts)
    (met_at_same c.args.flow c.args.traces.now c.reach_all.new.self c.args.written c.args.read.now
    c.in_ok-reach_all.ensures.same) i)

pub visit-requires-clause-room : goal.visit-requires-clause-room
visit-requires-clause-room c d i =
    c.in_ok-reach_all.ensures.room d (subst (λ cs. In d cs) (sym c.requires.cells) (inr i))

pub visit-requires-clause-written : goal.visit-requires-clause-written
visit-requires-clause-written c =
    c.in_ok-reach_all.ensures.room c.args.written
    (subst (λ cs. In c.args.written cs) (sym c.requires.cells) (inl refl))

pub returns-clause-visited : goal.returns-clause-visited
returns-clause-visited c =
    visited_same c.args.flow c.args.tile c.args.written c.args.read.now (marks_in c.visit.new.self)
    (readers_in c.visit.new.self) c.args.traces.now c.reach_all.new.self c.in_ok-reach_all.ensures.same
    c.in_ok-visit.ensures.visited

pub returns-clause-gains : goal.returns-clause-gains
returns-clause-gains c =
    subst (λ ts. Gains ts c.args.tile (rows_in c.args.pairs.now) (rows_in c.meet.new.pairs))
    (met_at_same c.args.flow c.args.traces.now c.reach_all.new.self c.args.written c.args.read.now
    c.in_ok-reach_all.ensures.same) c.in_ok-meet.ensures.gains
