use Rattle.scop_syntax.proofs.Common.{[], ◌≡◌, List, map, All, sym, subst, inl, inr, false}
use Rattle.schedule_rows.specs.Next.{State}
use Rattle.pluto_systems.specs.Posing.{dep_of}
use Rattle.pluto_search.specs.Questions.{IsRuledBy, StopsAt, StopsRows, StopsRowsOf}
use Rattle.pluto_search.specs.declared.state.Search.{Search}
use Rattle.pluto_search.specs.steps.Steps.{state_of, AreRules, HasMore, Steps}
use Rattle.pluto_search.proofs.Firsts.{first_behind}
use Rattle.pluto_search.proofs.GoodStates.{Vectors, all_ruled, full_is, not_full_is, ruled_by}
use Rattle.pluto_search.proofs.QuestionStops.{stop_of, stop_at}
use Rattle.pluto_search.proofs.next.next_item.Goals as goal
use Rattle.pluto_search.proofs.next.next_item.Goals.{After-is_full}

more : (c : After-is_full) → c.is_full.result ≡ false
    → HasMore c.args.progress.search.now (state_of c.args.progress)
more c e =
    not_full_is c.args.progress (λ all. c.is_full.ensures.more e (subst (λ (z : List Vectors). All (λ v. v.items ≡ []) z)
    (sym c.deref.ensures.value) all))

pub finish-requires : goal.finish-requires
finish-requires c =
    full_is c.args.progress (subst (λ (z : List Vectors). All (λ v. v.items ≡ []) z) c.deref.ensures.value
    (c.is_full.ensures.full c.if-is_full.true))

pub returns-in-Err : goal.returns-in-Err
returns-in-Err c =
    let p = c.args.progress in
    let g = p.search.now in
    let s = state_of p in
    stop_at g s c.in-Err.kept
    (stop_of (StopsRowsOf g.budget p.bare.items) (StopsAt g.parameters g.loops.now g.budget s) c.in-Err.kept
    (λ stop h. inr (
      more (goal.at.returns-in-Err c).After-is_full c.if-is_full.false,
      inl (first_behind (IsRuledBy g.budget) (λ d. StopsRows g.budget d stop) (map dep_of p.ruled.items) p.bare.items
          (all_ruled g.budget p.ruled.items (ruled_by g.budget p.ruled.items c.requires)) h),
    )) c.in-Err.ensures.stops)

pub next_row-requires-clause-rules : goal.next_row-requires-clause-rules
next_row-requires-clause-rules c =
    let h = c.in-Ok.ensures.ruled in
    subst (λ (g : Search). AreRules g.budget c.in-Ok.ruled.ruled.items) (sym h.search) (h.rules c.requires)

pub next_row-requires-clause-more : goal.next_row-requires-clause-more
next_row-requires-clause-more c =
    let h = c.in-Ok.ensures.ruled in
    subst (λ (g : Search). HasMore g (state_of c.in-Ok.ruled)) (sym h.search)
    (subst (HasMore c.args.progress.search.now) (sym h.same)
    (more (goal.at.next_row-requires-clause-more c).After-is_full c.if-is_full.false))

pub returns-in-Ok : goal.returns-in-Ok
returns-in-Ok c =
    let h = c.in-Ok.ensures.ruled in
    subst (λ (s : State). Steps c.args.progress.search.now s c.next_row.result) h.same
    (subst (λ (g : Search). Steps g (state_of c.in-Ok.ruled) c.next_row.result) h.search c.next_row.ensures)
