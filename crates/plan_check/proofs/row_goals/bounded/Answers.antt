use Rattle.scop_syntax.proofs.Common.{rules, ◌≡◌, ◌∙◌, ◌+◌, ◌<◌, ℕ, ap, ap₂, negsuc, pos, set, form_of, zeros}
use Rattle.scop_syntax.proofs.Common.{most_parameter}
use Rattle.iteration_domains.specs.Dependence.{Dependence}
use Rattle.iteration_domains.specs.Restrictions.{row_behind}
use Rattle.plan_check.specs.Goals.{bounded}
use Rattle.plan_check.proofs.Walks.{bound_next, bound_sized}
use Rattle.plan_check.proofs.row_goals.bounded.Goals as goal

pub with_row-requires : goal.with_row-requires
with_row-requires c =
    bound_sized c.args.parameters c.in_ok-variables.variables _ c.args.dep.now c.loop-step.whole _ _
    c.in_ok-variables.ensures c.loop-step.invariant c.in_ok-row.ensures

pub loop-step-preserved : goal.loop-step-preserved
loop-step-preserved c =
    let d = c.args.dep.now in
    let m = c.args.parameters in
    let k = c.loop-step.step in
    let n = d.system.dimensions + m in
    let less : k < m = search rules in
    let count : c.in_ok-variables.variables ≡ n =
    c.in_ok-variables.ensures ∙ ap (λ (i : ℕ). d.system.dimensions + i) c.requires in
    bound_next n d.system.dimensions m k c.loop-step.whole _ (bounded m d) less
    (c.in_ok-whole-2.ensures.dependence ∙ ap (row_behind c.loop-step.whole) (c.in_ok-row.ensures
    ∙ ap₂ (λ (i j : ℕ). form_of (set (zeros i) (j + k) (negsuc 0)) (pos most_parameter)) count
    (c.dimensions-first.ensures ∙ ap (λ (z : Dependence). z.system.dimensions) c.dep.view_is)))
    c.loop-step.invariant
