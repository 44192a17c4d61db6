use Rattle.scop_syntax.proofs.Common.{◌≡◌, List, [], ◌∷◌, ◌++◌, map, sym, ◌∙◌, ap, subst, append_assoc, inl, inr, Ok}
use Rattle.scop_syntax.proofs.Common.{map-append, All-push}
use Rattle.iteration_domains.specs.Dependence.{Dependence}
use Rattle.pluto_systems.specs.Posing.{RuledDep, IsRuled, dep_of, ruled_run}
use Rattle.pluto_search.specs.declared.kept.Kept.TheVariants as kept
use Rattle.pluto_search.specs.Questions.{StopsRows, StopsRowsOf}
use Rattle.pluto_search.specs.steps.Steps.{AreRules}
use Rattle.pluto_search.specs.steps.Stopping.{IsStop}
use Rattle.pluto_search.proofs.QuestionStops.{stop_of, rows_stop}
use Rattle.pluto_search.proofs.next.rule_all.Goals as goal

pub returns-in-Err-clause-stops : goal.returns-in-Err-clause-stops
returns-in-Err-clause-stops c =
    let d = c.in-Some.dep in
    let budget = c.args.budget in
    stop_of (StopsRows budget d) (StopsRowsOf budget c.args.bare.items) c.by_rows.result
    (λ stop h. c.loop-dep.invariant.4 stop
    (subst (λ (l : List Dependence). StopsRowsOf budget l stop) (sym c.in-Some.ensures.steps.0) (inl h)))
    (subst (λ (k : kept.the_data). IsStop (StopsRows c.args.budget d) k) (sym c.by_rows.ensures)
    (rows_stop c.args.budget d c.in-Err.stuck c.in-Err.ensures.run))

pub loop-dep-preserved : goal.loop-dep-preserved
loop-dep-preserved c =
    let all = c.loop-dep.all.items in
    let rest = c.next.new.self.rest.items in
    let x = c.in-Ok.next in
    let d = c.in-Some.dep in
    let budget = c.args.budget in
    let e = c.in-Ok-push.ensures.pushed in
    let steps = c.in-Some.ensures.steps.0 in
    let own = c.in-Ok.ensures.dep in (
      tt,
      tt,
      ap (λ (z : List RuledDep). map dep_of z ++ rest) e
          ∙ (ap (λ (z : List Dependence). z ++ rest) (map-append dep_of all (x ∷ []))
          ∙ (append_assoc (map dep_of all) (x.dep ∷ []) rest
          ∙ (ap (λ (z : Dependence). map dep_of all ++ (z ∷ rest)) own
          ∙ (ap (λ (z : List Dependence). map dep_of all ++ z) (sym steps) ∙ c.loop-dep.invariant.2)))),
      (λ h. subst (AreRules budget) (sym e)
          (All-push (λ (y : RuledDep). IsRuled y × (ruled_run budget y.dep ≡ Ok y)) all x (c.loop-dep.invariant.3 h)
          (c.in-Ok.ensures.ruled, ap (λ (z : Dependence). ruled_run budget z) own ∙ c.in-Ok.ensures.run))),
      (λ stop h. c.loop-dep.invariant.4 stop
          (subst (λ (l : List Dependence). StopsRowsOf budget l stop) (sym steps) (inr ((x, c.in-Ok.ensures.run), h)))),
    )
