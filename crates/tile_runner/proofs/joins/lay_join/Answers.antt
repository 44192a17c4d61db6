use Rattle.scop_syntax.proofs.Common.{ℤ, List, arith, subst, take, IfSome_then}
use Rattle.tile_table.specs.Joins.{IsJoinAt}
use Rattle.tile_core.proofs.Ahead.{walked_ahead}
use Rattle.tile_runner.proofs.Laid.{ahead_laid}
use Rattle.tile_runner.proofs.joins.lay_join.Goals as goal

pub row-requires-clause-walked : goal.row-requires-clause-walked
row-requires-clause-walked c =
    let w = c.args.worker.now in
    let ahead = c.requires.ahead in
    let some = ahead.1.some in
    walked_ahead c.args.plan.now w.stage w.next w.spot.stretch ahead.0 c.in-Some.next ahead.1 c.in-Some.is 0
    (omega (arith, some))

pub returns : goal.returns
returns c =
    let plan = c.args.plan.now in
    let w = c.args.worker.now in
    let next = c.in-Some.next in
    let row = c.row.result.now in
    let steps = c.first_steps-steps.result.now in
    let turns = c.turns.result.now in
    IfSome_then c.lay_join.result c.lay_join.ensures (λ lanes is count a. record {
      row = row;
      are = ahead_laid plan w.stage w.next w.spot.stretch count next row
          (λ (ss ts : List ℤ). IsJoinAt row ss ts lanes) a c.in-Some.is c.row.ensures.row
          (subst (λ (ts : List ℤ). IsJoinAt row (take next.loops w.spot.stretch.steps) ts lanes) c.turns.ensures
          (subst (λ (ss : List ℤ). IsJoinAt row ss turns lanes) c.first_steps-steps.ensures is));
    })
