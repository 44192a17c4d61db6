use Rattle.scop_syntax.proofs.Common.{◌+◌, ◌<◌, ◌^◌, ℕ, length, ap, ap₂, subst, sym, ◌∙◌, arith, rules, cell_count}
use Rattle.scop_meaning.specs.steps.Conditions.{AreExtents}
use Rattle.scop_meaning.proofs.Numbering.{total_step, total_front, extents_at}
use Rattle.scop_meaning.proofs.accesses.cells_before.Goals as goal

pub count_cells-total-requires : goal.count_cells-total-requires
count_cells-total-requires c =
    let es = c.args.extents.now in
    let there = c.requires.array in
    let h : c.loop-at.at < length es = omega (arith, c.loop-at-test.true) in
    subst AreExtents (sym c.array.ensures) (extents_at es c.loop-at.at c.requires.layout h)

pub overflow_add-total : goal.overflow_add-total
overflow_add-total c =
    let es = c.args.extents.now in
    let there = c.requires.array in
    let h : c.loop-at.at < length es = omega (arith, c.loop-at-test.true) in
    let count = c.count_cells-total.ensures ∙ ap cell_count c.array.ensures in
    let so_far = c.loop-at.invariant in
    let next = total_step es c.loop-at.at h in
    let front = total_front es (c.loop-at.at + 1) in
    let few = c.requires.layout.total in
    let small : c.loop-at.total + c.count_cells-total.result < 2 ^ 64 = omega arith in
    search rules

pub loop-at-preserved : goal.loop-at-preserved
loop-at-preserved c =
    let es = c.args.extents.now in
    let there = c.requires.array in
    let h : c.loop-at.at < length es = omega (arith, c.loop-at-test.true) in
    let count = c.count_cells-total.ensures ∙ ap cell_count c.array.ensures in
    ap₂ (λ (m n : ℕ). m + n) c.loop-at.invariant count ∙ sym (total_step es c.loop-at.at h)

pub returns-clause-few : goal.returns-clause-few
returns-clause-few c =
    let so_far = c.loop-at.invariant in
    let front = total_front c.args.extents.now c.loop-at.at in
    let few = c.requires.layout.total in
    omega arith
