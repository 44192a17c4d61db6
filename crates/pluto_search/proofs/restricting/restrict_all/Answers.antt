use Rattle.scop_syntax.proofs.Common.{◌≡◌, ◌+◌, List, ◌∷◌, arith, map, drop, take, sym, subst, drop_all, In, Option, Ok}
use Rattle.scop_syntax.proofs.Common.{true, false, all_next, all_taken, member_at}
use Rattle.iteration_domains.specs.Dependence.{Dependence}
use Rattle.schedule_rows.specs.Next.{restricted}
use Rattle.schedule_rows.specs.Schedule.{marked_of}
use Rattle.pluto_search.specs.Questions.{AnswersRestricted, IsAnswered, StopsEmptiness, StopsRestricted}
use Rattle.pluto_search.specs.steps.Stopping.{Restrictions}
use Rattle.pluto_search.proofs.Firsts.{first_next}
use Rattle.pluto_search.proofs.QuestionStops.{stop_of}
use Rattle.pluto_search.proofs.RestrictedDependences.{Leads, dropped, held_back, leads_last, next_of}
use Rattle.pluto_search.proofs.restricting.restrict_all.Goals as goal
use Rattle.pluto_search.proofs.restricting.restrict_all.Goals.{After-index-deps-at}

dep_next : (c : After-index-deps-at) → drop c.loop-at.at c.args.deps.now
    ≡ c.index-deps-at.result ∷ drop (c.loop-at.at + 1) c.args.deps.now
dep_next c =
    next_of c.args.deps.now c.loop-at.at c.index-deps-at.result c.index-deps-at.result
    (omega (arith, c.loop-at-test.true)) c.index-deps-at.is

dep_among : (c : After-index-deps-at) → In c.index-deps-at.result c.args.deps.now
dep_among c =
    member_at c.args.deps.now c.loop-at.at c.index-deps-at.result c.index-deps-at.is
    (omega (arith, c.loop-at-test.true))

pub restrict-requires-clause-tells : goal.restrict-requires-clause-tells
restrict-requires-clause-tells c = c.requires.tells c.index-deps-at.result
    (dep_among (goal.at.restrict-requires-clause-tells c).After-index-deps-at)

pub restrict-requires-clause-parameters : goal.restrict-requires-clause-parameters
restrict-requires-clause-parameters c =
    c.requires.parameters c.index-deps-at.result (dep_among (goal.at.restrict-requires-clause-parameters
    c).After-index-deps-at)

pub returns-in-Err-clause-stops : goal.returns-in-Err-clause-stops
returns-in-Err-clause-stops c =
    let m = c.args.parameters in
    let budget = c.args.budget in
    let deps = c.args.deps.now in
    let rows = map marked_of c.args.rows.now in
    let d = c.index-deps-at.result in
    let next = dep_next (goal.at.returns-in-Err-clause-stops c).After-index-deps-at in
    stop_of (StopsEmptiness budget (restricted m rows d)) (StopsRestricted m rows budget deps) c.in-Err.stopped
    (λ stop h. first_next (λ e. IsAnswered budget (restricted m rows e))
    (λ e. StopsEmptiness budget (restricted m rows e) stop) deps (drop (c.loop-at.at + 1) deps) c.loop-at.at d next
    c.loop-at.invariant.1 h)
    c.in-Err.ensures

-- one more is answered
answered_more : (c : After-index-deps-at) → IsAnswered c.args.budget
    (restricted c.args.parameters (map marked_of c.args.rows.now) c.index-deps-at.result)
    → AnswersRestricted c.args.parameters (map marked_of c.args.rows.now) c.args.budget
    (take (c.loop-at.at + 1) c.args.deps.now)
answered_more c h =
    all_next (λ e. IsAnswered c.args.budget (restricted c.args.parameters (map marked_of c.args.rows.now) e))
    c.args.deps.now c.loop-at.at c.index-deps-at.result c.index-deps-at.is (omega (arith, c.loop-at-test.true))
    c.loop-at.invariant.1 h

pub loop-at-preserved-in-Ok-None : goal.loop-at-preserved-in-Ok-None
loop-at-preserved-in-Ok-None c =
    let m = c.args.parameters in
    let rows = map marked_of c.args.rows.now in
    let d = c.index-deps-at.result in
    let next = dep_next (goal.at.loop-at-preserved-in-Ok-None c).After-index-deps-at in
    let told = subst (λ (f : Option Dependence). Restrictions m rows c.args.budget d (Ok f)) c.in-Ok-None.field-0-is
    c.in-Ok-None.ensures in (
      dropped m rows d (drop (c.loop-at.at + 1) c.args.deps.now) c.loop-at.kept.items c.args.deps.now told.0
          (subst (λ (l : List Dependence). Leads m rows l c.loop-at.kept.items c.args.deps.now) next
          c.loop-at.invariant.0),
      answered_more (goal.at.loop-at-preserved-in-Ok-None c).After-index-deps-at (true, told.1),
    )

pub loop-at-preserved : goal.loop-at-preserved
loop-at-preserved c =
    let m = c.args.parameters in
    let rows = map marked_of c.args.rows.now in
    let d = c.index-deps-at.result in
    let rest = drop (c.loop-at.at + 1) c.args.deps.now in
    let next = dep_next (goal.at.loop-at-preserved c).After-index-deps-at in
    let told = subst (λ (f : Option Dependence). Restrictions m rows c.args.budget d (Ok f)) c.in-Ok-Some.field-0-is
    c.in-Ok-Some.ensures in (
      subst (λ (l : List Dependence). Leads m rows rest l c.args.deps.now) (sym c.in-Ok.ensures.items)
          (held_back m rows d c.in-Ok-Some.dep rest c.loop-at.kept.items c.args.deps.now told.0 told.1
          (subst (λ (l : List Dependence). Leads m rows l c.loop-at.kept.items c.args.deps.now) next
          c.loop-at.invariant.0)),
      answered_more (goal.at.loop-at-preserved c).After-index-deps-at (false, told.2),
    )

pub returns-clause-kept : goal.returns-clause-kept
returns-clause-kept c =
    let m = c.args.parameters in
    let rows = map marked_of c.args.rows.now in
    leads_last m rows c.loop-at.kept.items c.args.deps.now
    (subst (λ (l : List Dependence). Leads m rows l c.loop-at.kept.items c.args.deps.now)
    (drop_all c.loop-at.at c.args.deps.now (omega (arith, c.loop-at-test.false))) c.loop-at.invariant.0)

pub returns-clause-answered : goal.returns-clause-answered
returns-clause-answered c =
    all_taken
    (λ e. IsAnswered c.args.budget (restricted c.args.parameters (map marked_of c.args.rows.now) e)) c.args.deps.now
    c.loop-at.at (omega (arith, c.loop-at-test.false)) c.loop-at.invariant.1
