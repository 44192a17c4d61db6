use Rattle.scop_syntax.proofs.Common.{◌∙◌, ◌<◌, List, All, length, sym, subst, All-tail, nil_from_length}
use Rattle.iteration_domains.specs.Dependence.{Dependence}
use Rattle.pluto_search.proofs.CutDependences.{Passes, cut_off, passed_on, passes_last}
use Rattle.pluto_search.proofs.ends.uncut.Goals as goal

pub loop-dep-preserved-then-is_cut : goal.loop-dep-preserved-then-is_cut
loop-dep-preserved-then-is_cut c =
    let numbers = c.args.numbers.now in
    let d = c.in-Some.dep in
    let rest = c.next.new.self.rest.items in
    let e = c.in-Some.ensures.steps.0 in
    let before = c.loop-dep.invariant in
    let P : Dependence → Type 0 = λ d. (d.source.statement < length numbers)
    × (d.target.statement < length numbers) in (
      tt,
      tt,
      All-tail P d rest (subst (λ (l : List Dependence). All P l) e before.2),
      cut_off numbers d rest c.loop-dep.kept.items c.args.deps.items (c.is_cut.ensures.cut c.if-is_cut.true)
          (subst (λ (l : List Dependence). Passes numbers l c.loop-dep.kept.items c.args.deps.items) e before.3),
    )

pub loop-dep-preserved : goal.loop-dep-preserved
loop-dep-preserved c =
    let numbers = c.args.numbers.now in
    let d = c.in-Some.dep in
    let rest = c.next.new.self.rest.items in
    let e = c.in-Some.ensures.steps.0 in
    let before = c.loop-dep.invariant in
    let P : Dependence → Type 0 = λ d. (d.source.statement < length numbers)
    × (d.target.statement < length numbers) in (
      tt,
      tt,
      All-tail P d rest (subst (λ (l : List Dependence). All P l) e before.2),
      subst (λ (l : List Dependence). Passes numbers rest l c.args.deps.items) (sym c.in_ok-push.ensures.items)
          (passed_on numbers d rest c.loop-dep.kept.items c.args.deps.items (c.is_cut.ensures.stays c.if-is_cut.false)
          (subst (λ (l : List Dependence). Passes numbers l c.loop-dep.kept.items c.args.deps.items) e before.3)),
    )

pub returns : goal.returns
returns c =
    let left = c.loop-dep.dep-iterator.rest in
    let none = nil_from_length left.items (sym left.ok.0 ∙ c.in-None.ensures.steps.0) in
    passes_last c.args.numbers.now c.loop-dep.kept.items c.args.deps.items
    (subst (λ (l : List Dependence). Passes c.args.numbers.now l c.loop-dep.kept.items c.args.deps.items) none
    c.loop-dep.invariant.3)
