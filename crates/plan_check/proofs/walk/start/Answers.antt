use Rattle.scop_syntax.proofs.Common.{rules, ◌≡◌, ◌∙◌, ◌<◌, ◌≤◌, Some, sym, slice_get}
use Rattle.plan_check.specs.Goals.{band_goals}
use Rattle.plan_check.specs.Plans.{number_of}
use Rattle.plan_check.specs.PlanView.{plan_of}
use Rattle.plan_check.proofs.Walks.{get_mapped, leading_less, leading_more, leading_same}
use Rattle.plan_check.proofs.walk.start.Goals as goal

pub returns-then-source-target : goal.returns-then-source-target
returns-then-source-target c = λ m.
    let p = plan_of c.args.plan.now in
    let d = c.args.dep.now in
    let ns = c.in-Some.numbers.now.items in
    let k = c.loop-at.at in
    let got : slice_get p.leading k ≡ Some ns =
    get_mapped (λ v. v.items) c.args.plan.now.leading.items k c.in-Some.numbers.now (sym c.in-Some.ensures) in
    let less : number_of ns d.source.statement < number_of ns d.target.statement = search rules in
    sym (leading_less d p.leading k ns (band_goals m d p) got less) ∙ c.loop-at.invariant m

pub returns-then-target-source : goal.returns-then-target-source
returns-then-target-source c = λ m.
    let p = plan_of c.args.plan.now in
    let d = c.args.dep.now in
    let ns = c.in-Some.numbers.now.items in
    let k = c.loop-at.at in
    let got : slice_get p.leading k ≡ Some ns =
    get_mapped (λ v. v.items) c.args.plan.now.leading.items k c.in-Some.numbers.now (sym c.in-Some.ensures) in
    let more : number_of ns d.target.statement < number_of ns d.source.statement = search rules in
    sym (leading_more d p.leading k ns (band_goals m d p) got more) ∙ c.loop-at.invariant m

pub loop-at-preserved : goal.loop-at-preserved
loop-at-preserved c = λ m.
    let p = plan_of c.args.plan.now in
    let d = c.args.dep.now in
    let ns = c.in-Some.numbers.now.items in
    let k = c.loop-at.at in
    let got : slice_get p.leading k ≡ Some ns =
    get_mapped (λ v. v.items) c.args.plan.now.leading.items k c.in-Some.numbers.now (sym c.in-Some.ensures) in
    let first : number_of ns d.target.statement ≤ number_of ns d.source.statement = search rules in
    let second : number_of ns d.source.statement ≤ number_of ns d.target.statement = search rules in
    sym (leading_same d p.leading k ns (band_goals m d p) got first second) ∙ c.loop-at.invariant m
