use Rattle.scop_syntax.proofs.Common.{◌∙◌, ◌+◌, suc, ℤ, List, sym, ap, subst, arith, length, map, inl, inr, Ok}
use Rattle.scop_syntax.proofs.Common.{length-map, In, in_map}
use Rattle.iteration_domains.specs.Dependence.{Dependence}
use Rattle.schedule_rows.specs.Items.{Row}
use Rattle.schedule_rows.specs.Next.{rows_of}
use Rattle.schedule_rows.specs.Outcomes.{goes, large, items_in}
use Rattle.schedule_rows.specs.Schedule.{row_of, block_of, marked_of}
use Rattle.pluto_systems.specs.Placing.{row_from}
use Rattle.pluto_systems.specs.Posing.{RuledDep, dep_of}
use Rattle.pluto_search.specs.Questions.{AnswersMarks, FindsRow, StopsAt, StopsMarks}
use Rattle.pluto_search.specs.steps.Steps.{AreRules, state_of}
use Rattle.pluto_search.proofs.Counts.{can_tell, least_good}
use Rattle.pluto_search.proofs.GoodStates.{ruled_remains, remains}
use Rattle.pluto_search.proofs.QuestionStops.{stop_of, stop_at, large_keeps}
use Rattle.pluto_search.proofs.NextStates.{appended_state, exact_mark}
use Rattle.pluto_search.proofs.next.take.Goals as goal
use Rattle.pluto_search.proofs.next.take.Goals.{After-is_within}

-- the row that the numbers make is found
found : (c : After-is_within)
    → FindsRow c.args.progress.search.now.parameters c.args.progress.search.now.loops.now
    c.args.progress.search.now.budget (state_of c.args.progress) (row_of c.in-Ok.row)
found c =
    let g = c.args.progress.search.now in
    subst (λ (z : Row). FindsRow g.parameters g.loops.now g.budget (state_of c.args.progress) z)
    (sym (c.in-Ok.ensures ∙ ap (λ (z : List ℤ). row_from g.parameters g.loops.now z) c.deref.ensures.value))
    c.requires.least

pub returns-then-not-is_within : goal.returns-then-not-is_within
returns-then-not-is_within c =
    let at = (goal.at.returns-then-not-is_within c).After-is_within in
    let p = c.args.progress in
    let n = suc (items_in (map block_of p.closed.items) + length p.rows.items) in
    let l = length-map p.rows.items marked_of in
    let great = c.is_within.ensures.great c.if-not-is_within.true in
    large_keeps p.search.now (state_of p) n c.too_large.result c.too_large.ensures
    (inr (c.requires.more, inl (row_of c.in-Ok.row, found at, inr great)))
    (inr (c.requires.more, inl (row_of c.in-Ok.row, (found at).1, inr (great, ap (λ z. large z) (omega arith)))))

pub append-requires : goal.append-requires
append-requires c =
    let at = (goal.at.append-requires c).After-is_within in
    let p = c.args.progress in
    let g = p.search.now in
    least_good g.parameters g.loops.now (state_of p).remaining (rows_of (state_of p)) (row_of c.in-Ok.row) (found at).1
    (c.is_within.ensures.within c.if-not-is_within.false)

pub is_parallel-requires : goal.is_parallel-requires
is_parallel-requires c x i =
    let at = (goal.at.is_parallel-requires c).After-is_within in
    let p = c.args.progress in
    let g = p.search.now in
    let r = row_of c.in-Ok.row in
    let j = in_map dep_of x p.ruled.items (subst (λ (l : List RuledDep). In x l) c.deref-2.ensures.value i) in
    can_tell g.parameters g.loops.now r x.dep
    (least_good g.parameters g.loops.now (state_of p).remaining (rows_of (state_of p)) r (found at).1
    (c.is_within.ensures.within c.if-not-is_within.false)) (p.good.between x.dep (ruled_remains p x.dep j))

pub returns-in-Err-is_parallel : goal.returns-in-Err-is_parallel
returns-in-Err-is_parallel c =
    let at = (goal.at.returns-in-Err-is_parallel c).After-is_within in
    let p = c.args.progress in
    let g = p.search.now in
    let s = state_of p in
    let r = row_of c.in-Ok.row in
    let within = c.is_within.ensures.within c.if-not-is_within.false in
    let same = remains p c.deref-2.result.now c.deref-2.ensures.value c.requires.ruled in
    stop_at g s c.in-Err-is_parallel.kept
    (stop_of (StopsMarks g.parameters r g.budget (map dep_of c.deref-2.result.now))
    (StopsAt g.parameters g.loops.now g.budget s) c.in-Err-is_parallel.kept (λ stop h.
    let asks = subst (λ (l : List Dependence). StopsMarks g.parameters r g.budget l stop) same h in
    inr (c.requires.more, inr (inr (inl (r, found at, within, asks))))) c.in-Err-is_parallel.ensures.stops)

pub returns : goal.returns
returns c =
    let at = (goal.at.returns c).After-is_within in
    let p = c.args.progress in
    let g = p.search.now in
    let s = state_of p in
    let r = row_of c.in-Ok.row in
    let mark = c.in-Ok-is_parallel.parallel in
    let within = c.is_within.ensures.within c.if-not-is_within.false in
    let least = (found at).1 in
    let same = remains p c.deref-2.result.now c.deref-2.ensures.value c.requires.ruled in
    let marks = subst (AnswersMarks g.parameters r g.budget) same c.in-Ok-is_parallel.ensures.answered in
    let exact = exact_mark g.parameters g.loops.now s.remaining (rows_of s) r mark p.good.between least within
    (λ e d i. c.in-Ok-is_parallel.ensures.parallel (ap Ok e) d (subst (λ (l : List Dependence). In d l) (sym same) i))
    (λ e.
    let x = c.in-Ok-is_parallel.ensures.carries (ap Ok e) in
    (x.0, subst (λ (l : List Dependence). In x.0 l) same x.1, x.2)) in
    let more = c.in-Ok-append.ensures in
    let next = ap (λ z. goes z) (appended_state p c.in-Ok-append.progress c.in-Ok.row mark more) in (
      inr (c.requires.more, inl (r, found at, inl (within, marks))),
      inr (c.requires.more, inl (r, least, inl (within, (mark, exact, next)))),
      record {
        search = more.search;
        rules = subst (AreRules g.budget) (sym more.ruled) c.requires.rules;
      },
    )
