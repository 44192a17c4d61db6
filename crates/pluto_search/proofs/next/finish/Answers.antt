use Rattle.scop_syntax.proofs.Common.{List, length, map, sym, subst, Ok, Err}
use Rattle.iteration_domains.specs.Dependence.{Dependence}
use Rattle.schedule_rows.specs.Next.{Restricts}
use Rattle.schedule_rows.specs.Schedule.{block_of}
use Rattle.pluto_search.specs.steps.StepParts.{AreWithin}
use Rattle.pluto_search.specs.steps.Steps.{state_of}
use Rattle.pluto_search.proofs.NextStates.{are_within, end_steps, full_stops}
use Rattle.pluto_search.proofs.RestrictedDependences.{restricts_between}
use Rattle.pluto_search.proofs.next.finish.Goals as goal
use Rattle.pluto_search.proofs.next.finish.Goals.{After-deref}

pub returns-in-Err : goal.returns-in-Err
returns-in-Err c =
    full_stops c.args.progress.search.now (state_of c.args.progress) c.in-Err.kept c.requires c.in-Err.ensures.stops

pub end-requires : goal.end-requires
end-requires c =
    let p = c.args.progress in
    let g = p.search.now in
    let s = state_of p in
    subst (λ (l : List Dependence). AreWithin (length g.loops.now) l) (sym c.deref.ensures.value)
    (are_within g.parameters g.loops.now c.in-Ok.left.items (restricts_between g.parameters g.loops.now s.rows
    s.remaining c.in-Ok.left.items p.good.between c.in-Ok.ensures.kept))

kept : (c : After-deref) → Restricts c.args.progress.search.now.parameters (state_of c.args.progress).rows
    (state_of c.args.progress).remaining c.deref.result.now
kept c =
    subst (Restricts c.args.progress.search.now.parameters (state_of c.args.progress).rows
    (state_of c.args.progress).remaining) (sym c.deref.ensures.value) c.in-Ok.ensures.kept

pub returns-in-Err-end : goal.returns-in-Err-end
returns-in-Err-end c =
    end_steps c.args.progress.search.now (state_of c.args.progress) c.deref.result.now
    (map block_of c.in-Ok-close.blocks.items) (Err c.in-Err-end.kept) c.requires c.in-Ok.ensures.answered
    (kept (goal.at.returns-in-Err-end c).After-deref) c.in-Ok-close.ensures c.in-Err-end.ensures

pub returns : goal.returns
returns c =
    end_steps c.args.progress.search.now (state_of c.args.progress) c.deref.result.now
    (map block_of c.in-Ok-close.blocks.items) (Ok c.in-Ok-end.blocks) c.requires c.in-Ok.ensures.answered
    (kept (goal.at.returns c).After-deref) c.in-Ok-close.ensures c.in-Ok-end.ensures
