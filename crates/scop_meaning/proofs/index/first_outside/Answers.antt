use Rattle.scop_syntax.proofs.Common.{ℕ, List, sym, subst, ℤ, program_of, items_of, layout, has_parameters}
use Rattle.scop_syntax.specs.declared.tree.Item.{Item}
use Rattle.scop_meaning.specs.steps.Conditions.{CanCheck}
use Rattle.scop_meaning.proofs.Kernels.{kernel_checks}
use Rattle.scop_meaning.proofs.index.first_outside.Goals as goal

pub outside_items-requires : goal.outside_items-requires
outside_items-requires c =
    let p = program_of c.args.kernel.now in
    let params = c.args.params.now in
    let limits = c.requires.limits in
    let checks = kernel_checks p params limits (c.numbers_of_runs_fit.ensures p params (has_parameters limits)) in
    subst (λ (es : List (List ℕ)). CanCheck 9 es (items_of c.deref.result.now) 0 c.point_at-point.result.items)
    (sym c.requires.extents)
    (subst (λ (items : List Item). CanCheck 9 (layout p params) (items_of items) 0 c.point_at-point.result.items)
    (sym c.deref.ensures.value)
    (subst (λ (x : List ℤ). CanCheck 9 (layout p params) p.body 0 x) (sym c.point_at-point.ensures) checks))
