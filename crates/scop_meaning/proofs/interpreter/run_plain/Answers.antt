use Rattle.scop_syntax.proofs.Common.{List, ap, sym, subst, ◌∙◌, arith, ℤ, ℕ, program_of, items_of, IsShaped, held}
use Rattle.scop_syntax.proofs.Common.{layout, acts_all, has_parameters}
use Rattle.scop_syntax.specs.declared.tree.Item.{Item}
use Rattle.scop_meaning.specs.steps.Conditions.{CanRun, ran}
use Rattle.scop_meaning.proofs.Kernels.{kernel_runs, exec_is}
use Rattle.scop_meaning.proofs.interpreter.run_plain.Goals as goal

pub point_at-point-requires : goal.point_at-point-requires
point_at-point-requires c =
    let few = c.requires.limits.kernel.few_parameters in
    let same = c.requires.limits.count in
    omega arith

pub run_items-requires : goal.run_items-requires
run_items-requires c =
    let p = program_of c.args.kernel.now in
    let params = c.args.params.now in
    let limits = c.requires.limits in
    let runs = kernel_runs p params c.args.arrays.now limits
    (c.numbers_of_runs_fit.ensures p params (has_parameters limits))
    (c.cells_lie_within_22_bits.ensures.counts p params limits) c.requires.inside c.requires.shape in
    subst (λ (es : List (List ℕ)). CanRun 9 es (items_of c.deref.result.now) c.point_at-point.result.items
    c.args.arrays.now) (sym c.of-layout.ensures)
    (subst (λ (items : List Item). CanRun 9 (layout p params) (items_of items) c.point_at-point.result.items
    c.args.arrays.now) (sym c.deref.ensures.value)
    (subst (λ (x : List ℤ). CanRun 9 (layout p params) p.body x c.args.arrays.now) (sym c.point_at-point.ensures) runs))

pub returns-clause-arrays : goal.returns-clause-arrays
returns-clause-arrays c =
    let p = program_of c.args.kernel.now in
    let params = c.args.params.now in
    let old = c.args.arrays.now in
    c.run_items.ensures.arrays
    ∙ (ap (λ (es : List (List ℕ)). ran es old
    (acts_all (items_of c.deref.result.now) c.point_at-point.result.items)) c.of-layout.ensures
    ∙ (ap (λ (items : List Item). ran (layout p params) old
    (acts_all (items_of items) c.point_at-point.result.items)) c.deref.ensures.value
    ∙ (ap (λ (x : List ℤ). ran (layout p params) old (acts_all p.body x)) c.point_at-point.ensures
    ∙ exec_is p params old)))

pub returns-clause-shape : goal.returns-clause-shape
returns-clause-shape c =
    subst (λ (es : List (List ℕ)). IsShaped es c.run_items.new.arrays) c.of-layout.ensures
    c.run_items.ensures.ready.shape

pub returns-clause-cells : goal.returns-clause-cells
returns-clause-cells c cell is =
    let p = program_of c.args.kernel.now in
    let params = c.args.params.now in
    ap (λ (contents : List (List ℕ)). held (layout p params) contents cell) (returns-clause-arrays c)
    ∙ c.executions_go_by_last_writers.ensures.cells p params c.args.arrays.now cell c.requires.inside
    c.requires.shape is
