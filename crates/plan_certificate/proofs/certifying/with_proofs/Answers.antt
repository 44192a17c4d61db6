-- One goal more, and at the end all of them.
use Rattle.scop_syntax.proofs.Common.{rules, ◌≡◌, ◌+◌, All, List, sym, subst, All-cons, All-nil}
use Rattle.iteration_domains.specs.Dependence.{Dependence}
use Rattle.plan_check.specs.Taking.{Takes}
use Rattle.plan_certificate.proofs.GoalTexts.{proofs_next}
use Rattle.plan_certificate.specs.steps.Narrow.{HasNarrow}
use Rattle.plan_certificate.proofs.certifying.with_proofs.Goals as goal

pub loop-current-preserved : goal.loop-current-preserved
loop-current-preserved c =
    let count : c.in-Some.current ≡ c.loop-current.number + 1 = search rules in
    let goal = c.in-Ok-Some.next.goal in
    let rest = c.in-Ok-Some.next.goals.left in
    let taken = subst (Takes c.loop-current.goals) c.in-Ok-Some.field-0-is c.in-Ok-Some.ensures in
    record {
      whole = proofs_next c.loop-current.out.items c.push_goal.new.out.items c.loop-current.number c.in-Some.current
          c.loop-current.goals.left goal rest _ count taken.0 c.in-Ok.ensures.gives c.loop-current.invariant.whole;
      narrow = λ all. c.loop-current.invariant.narrow (subst (λ (ds : List Dependence). All HasNarrow ds) (sym taken.0)
          (All-cons HasNarrow goal rest c.in-Ok.ensures.narrow all));
    }

pub returns-in-Ok-None-clause-narrow : goal.returns-in-Ok-None-clause-narrow
returns-in-Ok-None-clause-narrow c =
    let over = subst (Takes c.loop-current.goals) c.in-Ok-None.field-0-is c.in-Ok-None.ensures in
    c.loop-current.invariant.narrow
    (subst (λ (ds : List Dependence). All HasNarrow ds) (sym over) (All-nil HasNarrow))
