use Rattle.scop_syntax.proofs.Common.{◌∙◌, ap, arith, length, suc, slice_set, length-map}
use Rattle.tile_edges.specs.steps.Touches.{marks_in, readers_in}
use Rattle.tile_edges.proofs.Visits.{visited}
use Rattle.tile_edges.proofs.touching.Traces.visit.Goals as goal

pub write-requires-clause-room : goal.write-requires-clause-room
write-requires-clause-room c =
    let same = ap (λ v. length v.items) c.in_ok-read.ensures.marks in
    let room = c.requires.written in
    omega (arith, same, room)

pub returns-clause-visited : goal.returns-clause-visited
returns-clause-visited c =
    let even = c.in_ok-read.ensures.even in
    let same = ap (λ v. length v.items) c.in_ok-read.ensures.marks in
    let room = c.requires.written in
    let seen = length-map c.read.new.self.readers.items (λ list. list.items) in
    visited c.args.flow c.args.tile c.args.cell c.args.cells.now (marks_in c.args.self.now) (marks_in c.write.new.self)
    (readers_in c.args.self.now) (readers_in c.read.new.self) (readers_in c.write.new.self) room
    (omega (arith, even, same, room, seen)) c.in_ok-read.ensures.entered
    (c.in_ok-write.ensures.mark ∙ ap (λ v. slice_set v.items c.args.cell (suc c.args.tile)) c.in_ok-read.ensures.marks)
    c.in_ok-write.ensures.readers
