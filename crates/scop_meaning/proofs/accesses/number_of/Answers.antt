use Rattle.scop_syntax.proofs.Common.{◌+◌, ◌<◌, ◌^◌, [], get_or, ap, ◌∙◌, arith, rules, Access, cell_count}
use Rattle.scop_meaning.proofs.Numbering.{extents_at}
use Rattle.scop_meaning.proofs.accesses.number_of.Goals as goal

pub offset_at-requires-clause-count : goal.offset_at-requires-clause-count
offset_at-requires-clause-count c =
    let es = c.args.extents.now in
    let a = c.args.access.now in
    let named = ap (λ (b : Access). get_or es b.array []) c.access.view_is in
    let same = ap cell_count (c.array.ensures ∙ named) in
    let few = (extents_at es a.array c.requires.layout c.requires.cell.array).count in
    omega arith

pub overflow_add-result : goal.overflow_add-result
overflow_add-result c =
    let es = c.args.extents.now in
    let a = c.args.access.now in
    let named = ap (λ (b : Access). get_or es b.array []) c.access.view_is in
    let same = ap cell_count (c.array.ensures ∙ named) in
    let few = (extents_at es a.array c.requires.layout c.requires.cell.array).count in
    let before = c.cells_before-before.ensures.few in
    let below = c.offset_at.ensures.below in
    let small : c.cells_before-before.result + c.offset_at.result < 2 ^ 64 = omega arith in
    search rules
