use Rattle.scop_syntax.proofs.Common.{◌≡◌, ◌+◌, List, ◌∷◌, arith, map, drop, sym, subst, ap, inl, inr, Ok, In, in_map}
use Rattle.scop_syntax.proofs.Common.{Bool, true, false, All-map, drop_all, all_next, all_taken, member_at}
use Rattle.iteration_domains.specs.Dependence.{Dependence}
use Rattle.schedule_rows.specs.Dependences.{IsEmptyDep, above_at}
use Rattle.schedule_rows.specs.Schedule.{row_of}
use Rattle.pluto_systems.specs.Posing.{RuledDep, dep_of}
use Rattle.pluto_search.specs.Questions.{IsFirst, AnswersMark, StopsEmptiness, StopsMarks}
use Rattle.pluto_search.specs.steps.Sizes.{CanTell}
use Rattle.pluto_search.proofs.Firsts.{first_next, first_mapped}
use Rattle.pluto_search.proofs.QuestionStops.{stop_of}
use Rattle.pluto_search.proofs.RestrictedDependences.{next_of}
use Rattle.pluto_search.proofs.rows.is_parallel.Goals as goal
use Rattle.pluto_search.proofs.rows.is_parallel.Goals.{After-dep}

-- the one that is asked
asked_next : (c : After-dep) → drop c.loop-at.at c.args.ruled.now ≡ c.index-ruled-at.result ∷ drop (c.loop-at.at + 1)
    c.args.ruled.now
asked_next c =
    next_of c.args.ruled.now c.loop-at.at c.index-ruled-at.result c.index-ruled-at.result
    (omega (arith, c.loop-at-test.true)) c.index-ruled-at.is

asked_among : (c : After-dep) → In c.index-ruled-at.result c.args.ruled.now
asked_among c =
    member_at c.args.ruled.now c.loop-at.at c.index-ruled-at.result c.index-ruled-at.is
    (omega (arith, c.loop-at-test.true))

-- it is the first of which P holds, where the row rises on none before
first_asked : (c : After-dep) (P : Dependence → Type 0) → P c.index-ruled-at.result.dep
    → IsFirst (AnswersMark c.args.search.now.parameters (row_of c.args.row.now) c.args.search.now.budget true) P
    (map dep_of c.args.ruled.now)
first_asked c P h =
    let g = c.args.search.now in
    let Q : Dependence → Type 0 = AnswersMark g.parameters (row_of c.args.row.now) g.budget true in
    first_mapped dep_of Q P c.args.ruled.now
    (first_next (λ x. Q x.dep) (λ x. P x.dep) c.args.ruled.now (drop (c.loop-at.at + 1) c.args.ruled.now) c.loop-at.at
    c.index-ruled-at.result (asked_next c) c.loop-at.invariant.1 h)

pub is_level-requires : goal.is_level-requires
is_level-requires c =
    subst (λ (d : Dependence). CanTell c.args.search.now.parameters (row_of c.args.row.now) d) (sym c.dep.ensures)
    (c.requires c.index-ruled-at.result (asked_among c))

pub returns-in-Err-clause-stops : goal.returns-in-Err-clause-stops
returns-in-Err-clause-stops c =
    let g = c.args.search.now in
    let r = row_of c.args.row.now in
    let d = c.dep.result.now in
    stop_of (StopsEmptiness g.budget (above_at g.parameters r d))
    (StopsMarks g.parameters r g.budget (map dep_of c.args.ruled.now)) c.in-Err.kept
    (λ stop h. first_asked (goal.at.returns-in-Err-clause-stops c).After-dep
    (λ e. StopsEmptiness g.budget (above_at g.parameters r e) stop)
    (subst (λ (e : Dependence). StopsEmptiness g.budget (above_at g.parameters r e) stop) c.dep.ensures h))
    c.in-Err.ensures.stops

pub returns-in-Ok-false-clause-answered : goal.returns-in-Ok-false-clause-answered
returns-in-Ok-false-clause-answered c =
    let g = c.args.search.now in
    let P : Dependence → Type 0 = AnswersMark g.parameters (row_of c.args.row.now) g.budget false in
    inr (first_asked (goal.at.returns-in-Ok-false-clause-answered c).After-dep P
    (subst P c.dep.ensures (subst (λ (level : Bool). AnswersMark g.parameters (row_of c.args.row.now) g.budget
    level c.dep.result.now) c.in-Ok-false.field-0-test c.in-Ok-false.ensures.answered)))

pub returns-in-Ok-false-clause-carries : goal.returns-in-Ok-false-clause-carries
returns-in-Ok-false-clause-carries c h =
    let d = c.dep.result.now in
    let i = in_map dep_of c.index-ruled-at.result c.args.ruled.now (asked_among
    (goal.at.returns-in-Ok-false-clause-carries c).After-dep) in (
      d,
      subst (λ (z : Dependence). In z (map dep_of c.args.ruled.now)) (sym c.dep.ensures) i,
      c.in-Ok-false.ensures.rises (ap Ok c.in-Ok-false.field-0-test),
    )

pub loop-at-preserved : goal.loop-at-preserved
loop-at-preserved c =
    let g = c.args.search.now in
    let r = row_of c.args.row.now in
    let Q : Dependence → Type 0 = AnswersMark g.parameters r g.budget true in
    let own = subst (λ (z : Dependence). IsEmptyDep g.parameters (above_at g.parameters r z)) c.dep.ensures
    (c.in-Ok-true.ensures.level (ap Ok c.in-Ok-true.field-0-test)) in
    let next = asked_next (goal.at.loop-at-preserved c).After-dep in (
      λ h. c.loop-at.invariant.0 (λ d i.
          elim (subst (λ (l : List RuledDep). In d (map dep_of l)) next i) [
            | inl e ↦ subst (λ (z : Dependence). IsEmptyDep g.parameters (above_at g.parameters r z)) (sym e) own
            | inr j ↦ h d j
          ]),
      all_next (λ x. Q x.dep) c.args.ruled.now c.loop-at.at c.index-ruled-at.result c.index-ruled-at.is
          (omega (arith, c.loop-at-test.true)) c.loop-at.invariant.1
          (subst Q c.dep.ensures (subst (λ (level : Bool). AnswersMark g.parameters r g.budget level c.dep.result.now)
          c.in-Ok-true.field-0-test c.in-Ok-true.ensures.answered)),
    )

pub returns-clause-answered : goal.returns-clause-answered
returns-clause-answered c =
    let g = c.args.search.now in
    let Q : Dependence → Type 0 = AnswersMark g.parameters (row_of c.args.row.now) g.budget true in
    inl (All-map Q dep_of c.args.ruled.now
    (all_taken (λ x. Q x.dep) c.args.ruled.now c.loop-at.at (omega (arith, c.loop-at-test.false))
    c.loop-at.invariant.1))

pub returns-clause-parallel : goal.returns-clause-parallel
returns-clause-parallel c h =
    c.loop-at.invariant.0 (λ d i. absurd (subst (λ (l : List RuledDep). In d (map dep_of l))
    (drop_all c.loop-at.at c.args.ruled.now (omega (arith, c.loop-at-test.false))) i))
