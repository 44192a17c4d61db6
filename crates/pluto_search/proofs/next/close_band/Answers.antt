use Rattle.scop_syntax.proofs.Common.{◌∙◌, map, ap}
use Rattle.schedule_rows.specs.Items.{rows_in}
use Rattle.schedule_rows.specs.Schedule.{block_of}
use Rattle.schedule_rows.proofs.Measures.{rows_closed}
use Rattle.pluto_search.specs.steps.Steps.{state_of}
use Rattle.pluto_search.proofs.NextStates.{fresh}
use Rattle.pluto_search.proofs.RestrictedDependences.{restricts_between}
use Rattle.pluto_search.proofs.next.close_band.Goals as goal

pub invariant_of-result : goal.invariant_of-result
invariant_of-result c =
    let p = c.args.progress in
    let g = p.search.now in
    let s = state_of p in
    let kept = c.in-Ok.kept.items in
    rw (c.new.ensures.items, c.new-in-Ok-close.ensures.items)
    (record {
      good = fresh g.parameters g.loops.now s _ (map block_of c.in-Ok-close.closed.items) kept p.good
          (ap rows_in c.in-Ok-close.ensures ∙ rows_closed s.closed s.rows)
          (restricts_between g.parameters g.loops.now s.rows s.remaining kept p.good.between c.in-Ok.ensures.kept);
    })
