use Rattle.scop_syntax.proofs.Common.{List, ℤ, subst, take}
use Rattle.tile_table.specs.Desks.{IsLaid}
use Rattle.tile_table.proofs.Desks.{room_stays}
use Rattle.tile_runner.specs.steps.Laid.{IsOnDesk}
use Rattle.tile_runner.proofs.Laid.{ahead_laid}
use Rattle.tile_runner.proofs.stretches.lay_next.Goals as goal

pub returns-clause-laid : goal.returns-clause-laid
returns-clause-laid c = λ count a.
    let w = c.args.worker.now in
    let next = c.in-Some.next in
    let row = c.row-row.result.now in
    let room = c.requires.worker.desk.each next.statement row c.row-row.ensures.row in
    ahead_laid c.args.plan.now w.stage w.next w.spot.stretch count next row (IsOnDesk row c.lay.new.desk) a c.in-Some.is
    c.row-row.ensures.row (
      room_stays row w.desk c.lay.new.desk room c.lay.ensures.room,
      subst (λ (ts : List ℤ). IsLaid row (take next.loops w.spot.stretch.steps) ts c.lay.new.desk) c.turns.ensures
          (subst (λ (ts : List ℤ). IsLaid row ts c.turns.result.now c.lay.new.desk) c.first_steps.ensures
          c.lay.ensures.laid),
    )
