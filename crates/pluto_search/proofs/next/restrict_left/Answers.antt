use Rattle.scop_syntax.proofs.Common.{◌∙◌, List, All, IfErr, IfOk, In, ap, map, sym, subst}
use Rattle.iteration_domains.specs.Dependence.{Dependence}
use Rattle.schedule_rows.specs.declared.item.Marked as code
use Rattle.schedule_rows.specs.Items.{Marked}
use Rattle.schedule_rows.specs.Next.{Restricts}
use Rattle.schedule_rows.specs.Schedule.{marked_of}
use Rattle.pluto_search.specs.Questions.{AnswersRestricted, StopsRestricted}
use Rattle.pluto_search.specs.steps.Sizes.{CanTell}
use Rattle.pluto_search.specs.steps.Steps.{state_of}
use Rattle.pluto_search.specs.steps.Stopping.{IsStop}
use Rattle.pluto_search.proofs.Counts.{all_can_tell}
use Rattle.pluto_search.proofs.next.restrict_left.Goals as goal

pub restrict_all-requires-clause-tells : goal.restrict_all-requires-clause-tells
restrict_all-requires-clause-tells c d i =
    let p = c.args.progress.now in
    subst (λ (z : List code.Marked). All (λ (r : Marked). CanTell p.search.now.parameters r.row d) (map marked_of z))
    (sym c.deref.ensures.value) (all_can_tell p d (subst (In d) (c.deref-in-Ok.ensures.value ∙ c.in-Ok.ensures) i))

pub restrict_all-requires-clause-parameters : goal.restrict_all-requires-clause-parameters
restrict_all-requires-clause-parameters c d i =
    (c.args.progress.now.good.between d (subst (In d) (c.deref-in-Ok.ensures.value ∙ c.in-Ok.ensures) i)).0.parameters

pub returns-in-Ok : goal.returns-in-Ok
returns-in-Ok c =
    let p = c.args.progress.now in
    let g = p.search.now in
    let s = state_of p in
    let told : (P : List Marked → List Dependence → Type 0)
    → P (map marked_of c.deref.result.now) c.deref-in-Ok.result.now → P s.rows s.remaining = λ P h.
    subst (λ (ms : List Marked). P ms s.remaining) (ap (map marked_of) c.deref.ensures.value)
    (subst (P (map marked_of c.deref.result.now)) (c.deref-in-Ok.ensures.value ∙ c.in-Ok.ensures) h) in
    record {
      kept = told (λ ms ds. IfOk c.restrict_all.result (λ v. Restricts g.parameters ms ds v.items))
          c.restrict_all.ensures.kept;
      answered = told (λ ms ds. IfOk c.restrict_all.result (λ _. AnswersRestricted g.parameters ms g.budget ds))
          c.restrict_all.ensures.answered;
      stops = told (λ ms ds. IfErr c.restrict_all.result (IsStop (StopsRestricted g.parameters ms g.budget ds)))
          c.restrict_all.ensures.stops;
    }
