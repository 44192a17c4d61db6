use Rattle.scop_syntax.proofs.Common.{[], ◌+◌, subst, sym}
use Rattle.array_words.specs.Seats.{IsSeat}
use Rattle.tile_core.specs.Views.{done_at, tile_at}
use Rattle.tile_core.specs.declared.worker.Stage.{Stage}
use Rattle.tile_core.specs.declared.worker.Stage.TheVariants.{Working}
use Rattle.tile_runner.specs.steps.Laid.{AreJoined}
use Rattle.tile_runner.proofs.stretches.do_along.Goals as goal

pub do_joins-requires-clause-seat : goal.do_joins-requires-clause-seat
do_joins-requires-clause-seat c =
    let is = c.requires.seat in
    subst (λ (u : Stage). IsSeat c.args.words.now u [] c.args.seat.now) (sym is.stage) is

pub do_joins-requires-clause-laid : goal.do_joins-requires-clause-laid
do_joins-requires-clause-laid c =
    subst (λ (u : Stage). AreJoined c.args.words.now.plan u c.in-Some.lanes c.args.count) (sym c.requires.seat.stage)
    (c.in-Some.ensures c.args.count c.requires.ahead)

pub returns-in-Some-clause-seat : goal.returns-in-Some-clause-seat
returns-in-Some-clause-seat c =
    subst (λ (u : Stage).
    IsSeat c.args.words.now (Working (tile_at u) (done_at u + c.args.count)) [] c.do_joins.new.seat) c.requires.seat.stage c.do_joins.ensures
